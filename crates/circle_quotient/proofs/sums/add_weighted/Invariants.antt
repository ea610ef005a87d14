use Rattle.std.proofs.Common.{◌≡◌}
use Rattle.circle_commit.proofs.Written.{written}
use Rattle.circle_commit.specs.PeriodicLdeTable.{columns_of}
use Rattle.circle_quotient.proofs.LaneLists.{added}
use Rattle.circle_quotient.proofs.sums.add_weighted.Given as goal

abbrev pub invariant-loop-i : goal.invariant-loop-i
invariant-loop-i g l =
    let old = columns_of l.fn.coefficients in
    columns_of l.coefficients ≡ written l.i
    (added g.F.Operations.ops l.elements old (g.EF.ExtensionField.coefficients l.weight)) old
