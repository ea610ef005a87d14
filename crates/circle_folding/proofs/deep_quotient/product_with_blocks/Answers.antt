use Rattle.std.proofs.Common.{◌≡◌, ◌<◌, ◌+◌, ◌-◌, ◌*◌, ◌∙◌, sym, ap, length, map, take, drop}
use Rattle.std.proofs.Common.{get_or, arith, []}
use Rattle.std.proofs.lemmas.List.{length-map, get_or-map, take_all}
use Rattle.std.proofs.Math.Nat.{zero-mul}
use Rattle.circle_commit.specs.DotProduct.{dot}
use Rattle.circle_point.specs.Point.{coordinates}
use Rattle.circle_point.specs.declared.point.Point.{Point}
use Rattle.circle_folding.specs.Blocks.{sum_of, spread}
use Rattle.circle_folding.proofs.BlockSums.{dot-block, block-fits}
use Rattle.circle_folding.proofs.deep_quotient.product_with_blocks.Goals as goal

pub loop-i-init : goal.loop-i-init
loop-i-init g c =
    c.ZERO-sum.ensures ∙ g.met.EF.Field.zero_law
    ∙ sym (ap (λ n. dot g.EF.Operations.ops (take n c.args.word.now) []) (zero-mul c.args.size))

pub overflow_mul-start : goal.overflow_mul-start
overflow_mul-start g c =
    omega (
      arith,
      block-fits c.args.size c.loop-i.i (length c.args.points.now) (length c.args.word.now)
          c.loop-i-test.true c.requires,
    )

pub overflow_add-start : goal.overflow_add-start
overflow_add-start g c =
    omega (
      arith,
      block-fits c.args.size c.loop-i.i (length c.args.points.now) (length c.args.word.now)
          c.loop-i-test.true c.requires,
    )

pub offset_bounds-word-start : goal.offset_bounds-word-start
offset_bounds-word-start g c =
    omega (
      arith,
      block-fits c.args.size c.loop-i.i (length c.args.points.now) (length c.args.word.now)
          c.loop-i-test.true c.requires,
    )

pub slice_bounds-total-start : goal.slice_bounds-total-start
slice_bounds-total-start g c =
    omega (
      arith,
      block-fits c.args.size c.loop-i.i (length c.args.points.now) (length c.args.word.now)
          c.loop-i-test.true c.requires,
    )

pub slice_bounds-total-end : goal.slice_bounds-total-end
slice_bounds-total-end g c =
    omega (
      arith,
      block-fits c.args.size c.loop-i.i (length c.args.points.now) (length c.args.word.now)
          c.loop-i-test.true c.requires,
    )

pub slice_bounds-total-count : goal.slice_bounds-total-count
slice_bounds-total-count g c =
    omega (
      arith,
      block-fits c.args.size c.loop-i.i (length c.args.points.now) (length c.args.word.now)
          c.loop-i-test.true c.requires,
    )

pub loop-i-preserved : goal.loop-i-preserved
loop-i-preserved g c =
    let l = g.EF.Operations.ops in
    let word = c.args.word.now in
    let size = c.args.size in
    let points = c.args.points.now in
    let x = λ (p : Point g.row.F.Denot g.F.Operations). g.EF.ExtensionField.embed
    (coordinates p).x in
    let vs = map x points in
    let i = c.loop-i.i in
    let p = c.index-points-i.result in
    let v = x p in
    let within : i < length points = omega (arith, c.loop-i-test.true) in
    let at : v ≡ get_or vs i v = ap x c.index-points-i.is
    ∙ sym (get_or-map x points i p v within) in
    let block : c.total.result ≡ sum_of l (take size (drop (i * size) word)) =
    c.total.ensures
    ∙ (let e : i * size + size - i * size ≡ size = omega arith in
    ap (λ n. sum_of l (take n (drop (i * size) word))) e) in
    let term : c.times_base.result ≡ l.mul (sum_of l (take size (drop (i * size) word))) v =
    c.times_base.ensures ∙ ap (λ y. l.mul (g.EF.ExtensionField.embed y) c.total.result) c.x.ensures
    ∙ ap (l.mul v) block ∙ g.EF.Operations.laws.ring.mul_comm v _ in
    g.met.EF.Field.add_law _ _ _ c.add-sum.ensures
    ∙ ap (λ s. l.add s c.times_base.result) c.loop-i.invariant
    ∙ ap (l.add _) term
    ∙ sym
    (dot-block g.EF.Operations.laws.ring word vs size i v
    (omega (arith, within, length-map points x)) at
    (c.requires ∙ ap (λ n. n * size) (sym (length-map points x))))

pub returns : goal.returns
returns g c =
    let l = g.EF.Operations.ops in
    let word = c.args.word.now in
    let n = c.args.size in
    let points = c.args.points.now in
    let x = λ (p : Point g.row.F.Denot g.F.Operations). g.EF.ExtensionField.embed
    (coordinates p).x in
    let vs = map x points in
    let i = c.loop-i.i in
    let end : i ≡ length points = omega (arith, c.loop-i-test.false, c.loop-i.auto.i-end) in
    let whole : length word ≡ i * n = c.requires ∙ ap (λ m. m * n) (sym end) in
    c.loop-i.invariant
    ∙ ap (λ xs. dot l xs (spread n (take i vs))) (take_all (i * n) word (omega (arith, whole)))
    ∙ ap (λ us. dot l word (spread n us)) (take_all i vs (omega (arith, end, length-map points x)))
