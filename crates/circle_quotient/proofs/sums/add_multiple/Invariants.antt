use Rattle.std.proofs.Common.{◌≡◌}
use Rattle.circle_commit.proofs.Written.{written}
use Rattle.circle_commit.specs.DotProduct.{with_multiple}
use Rattle.circle_quotient.proofs.sums.add_multiple.Given as goal

abbrev pub invariant-loop-i : goal.invariant-loop-i
invariant-loop-i g l = l.sums ≡ written l.i
    (with_multiple g.F.Operations.ops (λ x. x) l.weight l.fn.sums l.elements) l.fn.sums
