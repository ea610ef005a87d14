use Rattle.std.proofs.Common.{ℕ, ◌≡◌, ◌-◌, ◌/◌, ◌^◌, ◌<◌, ◌++◌, [], ◌∷◌, ◌∙◌, refl, sym, ap, length}
use Rattle.std.proofs.Common.{map, take, slice_index_or, arith}
use Rattle.std.proofs.lemmas.List.{take_more, take_all, length-map, get_or-map}
use Rattle.circle_field.specs.Circle.{Coordinates}
use Rattle.circle_point.specs.Point.{coordinates}
use Rattle.circle_commit.proofs.Written.{length-pairwise, pairwise-read}
use Rattle.circle_commit.specs.DotProduct.{pairwise}
use Rattle.circle_folding.specs.Queries.{query_point}
use Rattle.circle_folding.proofs.FirstLayer.{first_layer-twiddles}
use Rattle.circle_folding.proofs.Queries.{signed, signed-even, signed-odd}
use Rattle.circle_folding.proofs.query.first_layer_twiddles.Goals as goal
use Rattle.circle_folding.proofs.query.first_layer_twiddles.Goals.{then-place-eq0, else-place-eq0}

pub loop-i-init : goal.loop-i-init
loop-i-init g c = c.in_ok-twiddles.ensures.items

pub overflow_shr-place : goal.overflow_shr-place
overflow_shr-place g c = omega (arith, c.requires.small)

pub neg-twiddle-requires : goal.neg-twiddle-requires
neg-twiddle-requires g c = g.met.F.Field.can_neg_law _

pub offset_bounds-points-i : goal.offset_bounds-points-i
offset_bounds-points-i g c =
    let qs = c.args.indices.now in
    let points = c.args.points.now in
    let one_each : length (map coordinates points) ≡ length qs =
    ap length c.requires.points
    ∙ length-map qs
    (query_point g.F.Operations.ops g.F.ComplexExtendable.generators c.args.log_height
    c.args.log_max_height) in
    omega (arith, c.loop-i-test.true, one_each, length-map points coordinates)

pub bounds-points-i : goal.bounds-points-i
bounds-points-i g c =
    let qs = c.args.indices.now in
    let points = c.args.points.now in
    let one_each : length (map coordinates points) ≡ length qs =
    ap length c.requires.points
    ∙ length-map qs
    (query_point g.F.Operations.ops g.F.ComplexExtendable.generators c.args.log_height
    c.args.log_max_height) in
    omega (arith, c.loop-i-test.true, one_each, length-map points coordinates)

pub loop-i-preserved : goal.loop-i-preserved
loop-i-preserved g c =
    let k = g.F.Operations.ops in
    let qs = c.args.indices.now in
    let points = c.args.points.now in
    let ps = map coordinates points in
    let i = c.loop-i.i in
    let p = c.index-points-i.result in
    let place = slice_index_or qs i 0 / 2 ^ (c.args.log_max_height - c.args.log_height) in
    let f =
    λ (q : ℕ) (p : Coordinates g.row.F.Denot). signed k
    (q / 2 ^ (c.args.log_max_height - c.args.log_height)) p.y in
    let all = pairwise f qs ps in
    let counted : length ps ≡ length points = length-map points coordinates in
    let one_each : length ps ≡ length qs = ap length c.requires.points
    ∙ length-map qs
    (query_point k g.F.ComplexExtendable.generators c.args.log_height c.args.log_max_height) in
    let here : i < length qs = c.loop-i-test.true in
    let t = c.if-place-eq0.twiddle in
    let x : coordinates p ≡ slice_index_or ps i (coordinates p) =
    ap coordinates c.index-points-i.is
    ∙ sym
    (get_or-map coordinates points i p (coordinates p)
    (omega (arith, here, counted, one_each))) in
    let own : t ≡ signed k place (coordinates p).y =
    elim c.if-place-eq0.branch [
      | then-place-eq0 w ↦ w.twiddle-is ∙ c.y-y.ensures
          ∙ sym (signed-even k place (coordinates p).y w.if-place-eq0.true)
      | else-place-eq0 w ↦ w.twiddle-is ∙ g.met.F.Field.neg_law _ _ w.neg-twiddle.ensures
          ∙ ap k.neg c.y-y.ensures ∙ sym (signed-odd k place (coordinates p).y w.if-place-eq0.false)
    ] in
    let made : t ≡ slice_index_or all i t =
    own ∙ ap (f (slice_index_or qs i 0)) x
    ∙ sym (pairwise-read f qs ps i 0 (coordinates p) t here (omega (arith, here, one_each))) in
    c.in_ok-push.ensures.items ∙ ap (λ before. before ++ t ∷ []) c.loop-i.invariant
    ∙ ap (λ v. take i all ++ v ∷ []) made
    ∙ sym (take_more all i t (omega (arith, here, length-pairwise f qs ps (sym one_each))))

pub returns : goal.returns
returns g c =
    let k = g.F.Operations.ops in
    let gen = g.F.ComplexExtendable.generators in
    let h = c.args.log_height in
    let high = c.args.log_max_height in
    let qs = c.args.indices.now in
    let points = c.args.points.now in
    let ps = map coordinates points in
    let f = λ (q : ℕ) (p : Coordinates g.row.F.Denot). signed k (q / 2 ^ (high - h)) p.y in
    let all = pairwise f qs ps in
    let one_each : length ps ≡ length qs = ap length c.requires.points
    ∙ length-map qs (query_point k gen h high) in
    let counted : length all ≡ length qs = length-pairwise f qs ps (sym one_each) in
    c.loop-i.invariant ∙ take_all c.loop-i.i all (omega (arith, c.loop-i-test.false, counted))
    ∙ ap (pairwise f qs) c.requires.points
    ∙ first_layer-twiddles g.F.Operations.laws.ring gen (high - h) h high qs c.requires.positive
    c.requires.within refl c.requires.below
