use Rattle.std.proofs.Common.{◌≡◌, ◌++◌, map, take}
use Rattle.circle_plane.specs.PeriodicRows.{table_row}
use Rattle.circle_plane.proofs.periodic.append_row.Given as goal

abbrev pub invariant-loop-column : goal.invariant-loop-column
invariant-loop-column g l = l.values.items ≡ l.fn.values.items
    ++ table_row g.F.Operations.ops.zero
    (take l.column-index (map (λ column. column.items) l.columns)) l.r
