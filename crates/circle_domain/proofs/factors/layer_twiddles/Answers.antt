use Rattle.std.proofs.Common.{◌≡◌, ◌-◌, ◌+◌, ◌<◌, ◌%◌, ◌^◌, ◌++◌, [], ◌∷◌, ◌∙◌, sym, ap, map}
use Rattle.std.proofs.Common.{length, arith, ⊎_elim, ◌≢◌}
use Rattle.std.proofs.lemmas.Bool.{cases_eq}
use Rattle.std.specs.List.{range_with_len}
use Rattle.std.proofs.lemmas.List.{length-map, map-append}
use Rattle.circle_field.specs.Circle.{Coordinates}
use Rattle.circle_domain.specs.Domain.{shift_of, log_size}
use Rattle.circle_point.specs.Basis.{doubled_x}
use Rattle.circle_point.specs.Point.{coordinates}
use Rattle.circle_domain.specs.Layers.{layer_factors, every_second}
use Rattle.circle_commit.proofs.Written.{range-more}
use Rattle.circle_domain.proofs.Twiddles.{first_factors, second_factors, next_factors}
use Rattle.circle_domain.proofs.Twiddles.{length-layer_factors, length-coset, even-pow, map-map}
use Rattle.circle_domain.proofs.Twiddles.{made-count, made-read}
use Rattle.circle_domain.proofs.factors.layer_twiddles.Goals as goal

pub first_points-requires-clause-positive : goal.first_points-requires-clause-positive
first_points-requires-clause-positive g c = c.requires.positive

pub first_points-requires-clause-in_group : goal.first_points-requires-clause-in_group
first_points-requires-clause-in_group g c = c.requires.in_group

pub loop-layer-init : goal.loop-layer-init
loop-layer-init g c =
    let k = g.F.Operations.ops in
    let gen = g.F.ComplexExtendable.generators in
    let n = log_size c.args.domain in
    let s = shift_of c.args.domain in
    let points = c.in_ok-points.points.items in
    let y = λ (p : Coordinates g.row.F.Denot). p.y in
    let ys : c.in_ok-ordinates.field-0.items ≡ layer_factors k gen n s 0 =
    c.in_ok-ordinates.ensures ∙ ap (map (λ p. (coordinates p).y)) c.deref.ensures.value
    ∙ sym (map-map y coordinates points)
    ∙ ap (map y) c.in_ok-points.ensures ∙ sym (first_factors k gen n s) in
    ap (map (λ factors. factors.items))
    (c.in_ok-push.ensures.items ∙ ap (λ xs. xs ++ c.in_ok-ordinates.field-0 ∷ [])
    c.in_ok-twiddles.ensures.items)
    ∙ ap (λ xs. xs ∷ []) ys

pub index-requires : goal.index-requires
index-requires g c =
    let f = layer_factors g.F.Operations.ops g.F.ComplexExtendable.generators
    (log_size c.args.domain) (shift_of c.args.domain) in
    let items = c.loop-layer.twiddles.items in
    let long : length items ≡ c.loop-layer.layer =
    made-count (λ w. w.items) f items c.loop-layer.layer c.loop-layer.invariant in
    omega (arith, long, c.loop-layer.twiddles.ok.0, c.loop-layer.auto.layer)

pub layer_after-requires-clause-points : goal.layer_after-requires-clause-points
layer_after-requires-clause-points g c =
    let k = g.F.Operations.ops in
    let gen = g.F.ComplexExtendable.generators in
    let n = log_size c.args.domain in
    let s = shift_of c.args.domain in
    let points = c.in_ok-points.points.items in
    let long : length points ≡ 2 ^ (n - 1) = sym (length-map points coordinates)
    ∙ ap length c.in_ok-points.ensures ∙ length-coset k gen (n - 1) s in
    ap (λ xs. length xs % 2) c.deref-in-loop-layer.ensures.value ∙ ap (λ m. m % 2) long
    ∙ even-pow (n - 1)
    (omega (arith, c.loop-layer-test.true, c.loop-layer.auto.layer, c.log_n-layer-end.ensures))

pub layer_after-requires-clause-before : goal.layer_after-requires-clause-before
layer_after-requires-clause-before g c =
    let k = g.F.Operations.ops in
    let gen = g.F.ComplexExtendable.generators in
    let n = log_size c.args.domain in
    let s = shift_of c.args.domain in
    let f = layer_factors k gen n s in
    let items = c.loop-layer.twiddles.items in
    let layer = c.loop-layer.layer in
    let v = c.index.result.now in
    let read : v.items ≡ f (layer - 1) =
    made-read (λ w. w.items) f items layer c.loop-layer.invariant (layer - 1) v c.index.ensures
    (omega (arith, c.loop-layer.auto.layer)) in
    ap (λ xs. length xs % 2) (c.deref-in-loop-layer-2.ensures.value ∙ read)
    ∙ ap (λ m. m % 2) (length-layer_factors k gen n (layer - 1) s)
    ∙ even-pow (n - (layer - 1 + 1))
    (omega (arith, c.loop-layer-test.true, c.loop-layer.auto.layer, c.log_n-layer-end.ensures))

pub loop-layer-preserved : goal.loop-layer-preserved
loop-layer-preserved g c =
    let k = g.F.Operations.ops in
    let gen = g.F.ComplexExtendable.generators in
    let n = log_size c.args.domain in
    let s = shift_of c.args.domain in
    let f = layer_factors k gen n s in
    let x = λ (p : Coordinates g.row.F.Denot). p.x in
    let items = c.loop-layer.twiddles.items in
    let layer = c.loop-layer.layer in
    let v = c.index.result.now in
    let factors = c.in_ok-factors.factors in
    let below : layer < n = omega (arith, c.loop-layer-test.true, c.log_n-layer-end.ensures) in
    let read : v.items ≡ f (layer - 1) =
    made-read (λ w. w.items) f items layer c.loop-layer.invariant (layer - 1) v c.index.ensures
    (omega (arith, c.loop-layer.auto.layer)) in
    let made : factors.items ≡ f layer =
    ⊎_elim
    (λ one. c.in_ok-factors.ensures.second one
    ∙ ap (λ ps. map x (every_second (map coordinates ps))) c.deref-in-loop-layer.ensures.value
    ∙ ap (λ ps. map x (every_second ps)) c.in_ok-points.ensures
    ∙ sym (second_factors k gen n s (omega (arith, one, below))) ∙ ap f (sym one))
    (λ more. let e : layer - 1 + 1 ≡ layer = omega (arith, c.loop-layer.auto.layer) in
    let later : layer ≢ 1 = more in
    c.in_ok-factors.ensures.later later ∙ ap (λ xs. map (doubled_x k) (every_second xs))
    (c.deref-in-loop-layer-2.ensures.value ∙ read)
    ∙ sym (next_factors k gen n (layer - 1) s (omega (arith, more, c.loop-layer.auto.layer))
    (omega (arith, below))) ∙ ap f e)
    (cases_eq layer 1) in
    ap (map (λ w. w.items)) c.in_ok-push-2.ensures.items
    ∙ map-append (λ w. w.items) items (factors ∷ [])
    ∙ ap (λ xs. xs ++ factors.items ∷ []) c.loop-layer.invariant
    ∙ ap (λ y. map f (range_with_len 0 layer) ++ y ∷ [])
    (made ∙ ap f (let z : layer ≡ 0 + layer = omega arith in z))
    ∙ sym (range-more f 0 layer)

pub returns : goal.returns
returns g c =
    let f = layer_factors g.F.Operations.ops g.F.ComplexExtendable.generators
    (log_size c.args.domain) (shift_of c.args.domain) in
    let end : c.loop-layer.layer ≡ log_size c.args.domain =
    omega (arith, c.loop-layer-test.false, c.log_n-layer-end.ensures, c.requires.positive) in
    c.loop-layer.invariant ∙ ap (λ m. map f (range_with_len 0 m)) end
