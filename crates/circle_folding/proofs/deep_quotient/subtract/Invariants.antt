use Rattle.std.proofs.Common.{◌≡◌, map}
use Rattle.circle_field.specs.Field.{sub}
use Rattle.circle_commit.proofs.Written.{written}
use Rattle.circle_folding.proofs.deep_quotient.subtract.Given as goal

abbrev pub invariant-loop-entry : goal.invariant-loop-entry
invariant-loop-entry g l =
    l.entries ≡ written l.entry-index (map (λ a. sub g.F.Operations.ops a l.amount) l.fn.entries)
    l.fn.entries
