use Rattle.std.proofs.Common.{◌≡◌, map, drop}
use Rattle.circle_air.specs.Refusal.{periods_refusal}
use Rattle.circle_air.proofs.parts.check_periods.Given as goal

abbrev pub invariant-loop-column : goal.invariant-loop-column
invariant-loop-column g l =
    periods_refusal 0 (map (λ column. column.items) l.columns)
    ≡ periods_refusal l.column (map (λ column. column.items) (drop l.column l.columns))
