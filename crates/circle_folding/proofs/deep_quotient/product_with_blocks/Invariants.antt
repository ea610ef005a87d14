use Rattle.std.proofs.Common.{◌≡◌, ◌*◌, map, take}
use Rattle.circle_point.specs.Point.{coordinates}
use Rattle.circle_commit.specs.DotProduct.{dot}
use Rattle.circle_folding.specs.Blocks.{spread}
use Rattle.circle_folding.proofs.deep_quotient.product_with_blocks.Given as goal

abbrev pub invariant-loop-i : goal.invariant-loop-i
invariant-loop-i g l =
    l.sum ≡ dot g.EF.Operations.ops (take (l.i * l.size) l.word)
    (spread l.size (take l.i (map (λ p. g.EF.ExtensionField.embed (coordinates p).x) l.points)))
