use Rattle.std.proofs.Common.{◌≡◌, drop, map}
use Rattle.circle_stark.specs.Refusals.{first_longer}
use Rattle.circle_stark.proofs.statement.first_longer.Given as goal

abbrev pub invariant-loop-column : goal.invariant-loop-column
invariant-loop-column g l =
    first_longer l.log_n 0 (map (λ column. column.items) l.columns)
    ≡ first_longer l.log_n l.column (map (λ column. column.items) (drop l.column l.columns))
