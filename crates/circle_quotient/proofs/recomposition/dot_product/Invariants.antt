use Rattle.std.proofs.Common.{◌≡◌, take}
use Rattle.circle_commit.specs.DotProduct.{dot}
use Rattle.circle_quotient.proofs.recomposition.dot_product.Given as goal

abbrev pub invariant-loop-i : goal.invariant-loop-i
invariant-loop-i g l = l.sum ≡ dot g.E.Operations.ops (take l.i l.left) (take l.i l.right)
