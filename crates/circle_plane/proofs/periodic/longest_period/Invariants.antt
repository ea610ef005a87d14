use Rattle.std.proofs.Common.{◌≡◌, All, length, map, take}
use Rattle.circle_commit.specs.Mmcs.{greatest}
use Rattle.circle_plane.specs.PeriodicColumns.{IsPeriod}
use Rattle.circle_plane.proofs.periodic.longest_period.Given as goal

abbrev pub invariant-loop-column : goal.invariant-loop-column
invariant-loop-column g l = record {
  fit : All (IsPeriod l.trace_len)
      (take l.column-index (map length (map (λ column. column.items) l.periodic_table)));
  longest : l.longest
      ≡ greatest (take l.column-index (map length (map (λ column. column.items) l.periodic_table)));
}
