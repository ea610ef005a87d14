use Rattle.std.proofs.Common.{◌≡◌}
use Rattle.circle_commit.proofs.Written.{written}
use Rattle.circle_quotient.specs.Lanes.{lane_of}
use Rattle.circle_quotient.proofs.sums.lane_sum.Given as goal

abbrev pub invariant-loop-i : goal.invariant-loop-i
invariant-loop-i g l = g.EF.ExtensionField.coefficients l.sum ≡ written l.i
    (lane_of g.F.Operations.ops l.coefficients l.lane)
    (g.EF.ExtensionField.coefficients g.EF.Operations.ops.zero)
