use Rattle.std.proofs.Common.{◌≡◌, ◌*◌, ◌++◌, map, take, drop}
use Rattle.circle_field.specs.Field.{sub}
use Rattle.circle_point.specs.Point.{coordinates}
use Rattle.circle_commit.specs.DotProduct.{pairwise}
use Rattle.circle_folding.specs.Blocks.{spread}
use Rattle.circle_folding.proofs.deep_quotient.subtract_from_blocks.Given as goal

abbrev pub invariant-loop-i : goal.invariant-loop-i
invariant-loop-i g l =
    let k = g.EF.Operations.ops in
    let f = λ (a v : g.row.EF.Denot). sub k a (k.mul l.multiple v) in
    let vs = map (λ p. g.EF.ExtensionField.embed (coordinates p).x) l.points in
    take (l.i * l.size) l.word
    ++ pairwise f (drop (l.i * l.size) l.word) (spread l.size (drop l.i vs))
    ≡ pairwise f l.fn.word (spread l.size vs)
