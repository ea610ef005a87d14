use Rattle.std.proofs.Common.{◌≡◌, take}
use Rattle.circle_commit.specs.DotProduct.{dot}
use Rattle.circle_folding.specs.Quotient.{differences}
use Rattle.circle_folding.proofs.deep_quotient.weighted_differences.Given as goal

abbrev pub invariant-loop-j : goal.invariant-loop-j
invariant-loop-j g l =
    l.sum
    ≡ dot g.EF.Operations.ops (take l.j l.weights)
    (take l.j (differences g.EF.Operations.ops g.EF.ExtensionField.embed l.row l.values))
