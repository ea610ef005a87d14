use Rattle.std.proofs.Common.{◌≡◌, ℕ, ◌<◌, ◌-◌, ◌+◌, ◌++◌, ◌∙◌, sym, ap, map, length}
use Rattle.std.proofs.Common.{slice_index_or, arith, [], ◌∷◌}
use Rattle.std.proofs.Math.ListN.{get_or-map}
use Rattle.std.proofs.lemmas.List.{length-map}
use Rattle.std.proofs.lemmas.List.FromFn.{get_or-map-range_with_len, length-map-range_with_len}
use Rattle.circle_field.specs.Circle.{plus}
use Rattle.circle_domain.specs.Domain.{shift_of, log_size}
use Rattle.circle_domain.specs.Layers.{block_starts}
use Rattle.circle_point.specs.Point.{coordinates}
use Rattle.circle_cfft.proofs.QuarterTurns.{block_starts-more}
use Rattle.circle_cfft.proofs.twiddles.eighth_points.Goals as goal

pub loop-log_order-init : goal.loop-log_order-init
loop-log_order-init g c =
    ap (map coordinates)
    (c.in_ok-push.ensures.items
    ∙ ap (λ ps. ps ++ c.shift.result ∷ []) c.in_ok-points.ensures.items)
    ∙ ap (λ p. p ∷ []) c.shift.ensures

pub index-requires : goal.index-requires
index-requires g c =
    let r = c.log_n.result in
    let steps = c.in_ok-steps.steps.items in
    let count : length steps ≡ r - 3 = sym (length-map steps coordinates)
    ∙ ap length c.in_ok-steps.ensures
    ∙ length-map-range_with_len (λ i. g.F.ComplexExtendable.generators (r - 1 - i)) 0 (r - 3) in
    let same : c.log_n-in-loop-log_order.result ≡ r = c.log_n-in-loop-log_order.ensures
    ∙ sym c.log_n.ensures in
    let end : c.log_n-log_order-end.result ≡ r = c.log_n-log_order-end.ensures
    ∙ sym c.log_n.ensures in
    omega (
      arith,
      count,
      same,
      end,
      c.in_ok-steps.steps.ok.0,
      c.loop-log_order-test.true,
      c.loop-log_order.auto.log_order,
    )

pub loop-log_order-preserved : goal.loop-log_order-preserved
loop-log_order-preserved g c =
    let k = g.F.Operations.ops in
    let gen = g.F.ComplexExtendable.generators in
    let s = shift_of c.args.domain in
    let r = c.log_n.result in
    let steps = c.in_ok-steps.steps.items in
    let order = c.loop-log_order.log_order in
    let i = c.log_n-in-loop-log_order.result - 1 - order in
    let step = c.index.result.now in
    let a = order - 3 in
    let same : c.log_n-in-loop-log_order.result ≡ r = c.log_n-in-loop-log_order.ensures
    ∙ sym c.log_n.ensures in
    let end : c.log_n-log_order-end.result ≡ r = c.log_n-log_order-end.ensures
    ∙ sym c.log_n.ensures in
    let e : r - 1 - i ≡ a + 3 =
    omega (arith, same, end, c.loop-log_order-test.true, c.loop-log_order.auto.log_order) in
    let f : a + 1 ≡ order + 1 - 3 = omega arith in
    let z : 0 + i ≡ i = omega arith in
    let below : i < r - 3 =
    omega (arith, same, end, c.loop-log_order-test.true, c.loop-log_order.auto.log_order) in
    let is : coordinates step ≡ gen (a + 3) =
    ap coordinates c.index.ensures ∙ sym (get_or-map coordinates steps i step)
    ∙ ap (λ xs. slice_index_or xs i (coordinates step)) c.in_ok-steps.ensures
    ∙ get_or-map-range_with_len (λ (j : ℕ). gen (r - 1 - j)) 0 (r - 3) i i (coordinates step) below
    z ∙ ap gen e in
    c.in_ok-append_moved.ensures
    ∙ ap (λ p. map coordinates c.loop-log_order.points.items
    ++ map (λ q. plus k q p) (map coordinates c.loop-log_order.points.items)) is
    ∙ ap (λ ps. ps ++ map (λ q. plus k q (gen (a + 3))) ps) c.loop-log_order.invariant
    ∙ sym (block_starts-more g.F.Operations.laws.ring gen a 2 s)
    ∙ ap (λ n. block_starts k gen n 3 s) f

pub returns : goal.returns
returns g c =
    let e : c.loop-log_order.log_order - 3 ≡ log_size c.args.domain - 3 =
    omega (arith, c.log_n-log_order-end.ensures) in
    c.loop-log_order.invariant
    ∙ ap
    (λ n. block_starts g.F.Operations.ops g.F.ComplexExtendable.generators n 3
    (shift_of c.args.domain)) e
