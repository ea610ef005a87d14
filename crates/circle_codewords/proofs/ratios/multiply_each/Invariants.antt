use Rattle.std.proofs.Common.{◌≡◌}
use Rattle.circle_commit.proofs.Written.{written}
use Rattle.circle_commit.specs.DotProduct.{pairwise}
use Rattle.circle_codewords.proofs.ratios.multiply_each.Given as goal

abbrev pub invariant-loop-i : goal.invariant-loop-i
invariant-loop-i g l =
    l.entries ≡ written l.i (pairwise g.F.Operations.ops.mul l.fn.entries l.factors) l.fn.entries
