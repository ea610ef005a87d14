use Rattle.std.proofs.Common.{◌≡◌, ◌<◌, ◌≤◌, ◌+◌, ◌-◌, ◌*◌, ◌∙◌, refl, sym, ap, length, map, take}
use Rattle.std.proofs.Common.{drop, get_or, arith, length-drop, add-one, ◌++◌, rules}
use Rattle.std.proofs.Math.Nat.{mul-le-mul_right, suc-mul, zero-mul}
use Rattle.std.proofs.lemmas.List.{length-map, length-take-le, get_or-map}
use Rattle.circle_field.specs.Field.{sub}
use Rattle.circle_point.specs.Point.{coordinates}
use Rattle.circle_point.specs.declared.point.Point.{Point}
use Rattle.circle_commit.specs.DotProduct.{pairwise}
use Rattle.circle_domain.proofs.Layered.{block-more, block-end}
use Rattle.circle_folding.specs.Blocks.{spread}
use Rattle.circle_folding.proofs.BlockSums.{made-spread, block-fits}
use Rattle.circle_folding.proofs.deep_quotient.subtract_from_blocks.Goals as goal

pub loop-i-init : goal.loop-i-init
loop-i-init g c =
    let k = g.EF.Operations.ops in
    let f = λ (a v : g.row.EF.Denot). sub k a (k.mul c.args.multiple v) in
    let x = λ (p : Point g.row.F.Denot g.F.Operations). g.EF.ExtensionField.embed
    (coordinates p).x in
    let vs = map x c.args.points.now in
    let word = c.args.word.now in
    ap (λ m. take m word ++ pairwise f (drop m word) (spread c.args.size vs)) (zero-mul c.args.size)

pub overflow_mul-start : goal.overflow_mul-start
overflow_mul-start g c =
    omega (
      arith,
      block-fits c.args.size c.loop-i.i (length c.args.points.now) (length c.loop-i.word)
          c.loop-i-test.true (c.loop-i.auto.word ∙ c.requires),
    )

pub overflow_add-start : goal.overflow_add-start
overflow_add-start g c =
    omega (
      arith,
      block-fits c.args.size c.loop-i.i (length c.args.points.now) (length c.loop-i.word)
          c.loop-i-test.true (c.loop-i.auto.word ∙ c.requires),
    )

pub offset_bounds-word-start : goal.offset_bounds-word-start
offset_bounds-word-start g c =
    let within : c.loop-i.i * c.args.size ≤ length c.loop-i.word =
    omega (
      arith,
      block-fits c.args.size c.loop-i.i (length c.args.points.now) (length c.loop-i.word)
          c.loop-i-test.true (c.loop-i.auto.word ∙ c.requires),
    ) in
    search rules

pub slice_bounds-subtract-start : goal.slice_bounds-subtract-start
slice_bounds-subtract-start g c =
    omega (
      arith,
      block-fits c.args.size c.loop-i.i (length c.args.points.now) (length c.loop-i.word)
          c.loop-i-test.true (c.loop-i.auto.word ∙ c.requires),
    )

pub slice_bounds-subtract-end : goal.slice_bounds-subtract-end
slice_bounds-subtract-end g c =
    omega (
      arith,
      block-fits c.args.size c.loop-i.i (length c.args.points.now) (length c.loop-i.word)
          c.loop-i-test.true (c.loop-i.auto.word ∙ c.requires),
    )

pub slice_bounds-subtract-count : goal.slice_bounds-subtract-count
slice_bounds-subtract-count g c =
    omega (
      arith,
      block-fits c.args.size c.loop-i.i (length c.args.points.now) (length c.loop-i.word)
          c.loop-i-test.true (c.loop-i.auto.word ∙ c.requires),
    )

pub loop-i-preserved : goal.loop-i-preserved
loop-i-preserved g c =
    let k = g.EF.Operations.ops in
    let f = λ (a v : g.row.EF.Denot). sub k a (k.mul c.args.multiple v) in
    let x = λ (p : Point g.row.F.Denot g.F.Operations). g.EF.ExtensionField.embed
    (coordinates p).x in
    let n = c.args.size in
    let points = c.args.points.now in
    let vs = map x points in
    let word = c.loop-i.word in
    let i = c.loop-i.i in
    let p = c.index-points-i.result in
    let v = x p in
    let start = i * n in
    let len = start + n - start in
    let within : i < length points = omega (arith, c.loop-i-test.true) in
    let at : v ≡ get_or vs i v = ap x c.index-points-i.is
    ∙ sym (get_or-map x points i p v within) in
    let below : (i + 1) * n ≤ length points * n = let le : i + 1 ≤ length points =
    omega (arith, within) in mul-le-mul_right n le in
    let next : (i + 1) * n ≡ start + n = ap (λ m. m * n) (add-one i) ∙ suc-mul i n in
    let fits : start + len ≤ length word =
    omega (arith, below, next, c.requires, c.loop-i.auto.word) in
    let amount : c.times_base.result ≡ k.mul c.args.multiple v =
    c.times_base.ensures ∙ ap (λ y. k.mul (g.EF.ExtensionField.embed y) c.args.multiple) c.x.ensures
    ∙ g.EF.Operations.laws.ring.mul_comm v c.args.multiple in
    let rest : len ≤ length (drop start word) = omega (arith, fits, length-drop start word) in
    let size : len ≡ n = omega arith in
    block-more (λ us xs. pairwise f xs (spread n us)) n vs word c.subtract.new.entries v i start len
    (omega (arith, within, length-map points x)) at refl size fits
    (c.subtract.auto.entries ∙ length-take-le len (drop start word) rest)
    (made-spread f (drop start word) c.subtract.new.entries n len v (drop (i + 1) vs) size rest
    (c.subtract.ensures ∙ ap (λ b. map (λ a. sub k a b) (take len (drop start word))) amount))
    ∙ c.loop-i.invariant

pub returns : goal.returns
returns g c =
    let k = g.EF.Operations.ops in
    let f = λ (a v : g.row.EF.Denot). sub k a (k.mul c.args.multiple v) in
    let x = λ (p : Point g.row.F.Denot g.F.Operations). g.EF.ExtensionField.embed
    (coordinates p).x in
    let points = c.args.points.now in
    let vs = map x points in
    let end : c.loop-i.i ≡ length points =
    omega (arith, c.loop-i-test.false, c.loop-i.auto.i-end) in
    let size = length-map points x in
    sym (block-end (λ us xs. pairwise f xs (spread c.args.size us)) c.args.size vs c.loop-i.word
    c.loop-i.i (c.loop-i.auto.word ∙ c.requires ∙ ap (λ m. m * c.args.size) (sym size))
    (end ∙ sym size) refl)
    ∙ c.loop-i.invariant
