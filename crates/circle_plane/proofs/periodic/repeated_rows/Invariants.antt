use Rattle.std.proofs.Common.{◌≡◌, map}
use Rattle.std.specs.List.{range_with_len, flat_map}
use Rattle.circle_plane.specs.PeriodicRows.{table_row}
use Rattle.circle_plane.proofs.periodic.repeated_rows.Given as goal

abbrev pub invariant-loop-r : goal.invariant-loop-r
invariant-loop-r g l =
    l.values.items
    ≡ flat_map (table_row g.F.Operations.ops.zero (map (λ column. column.items) l.columns))
    (range_with_len 0 l.r)
