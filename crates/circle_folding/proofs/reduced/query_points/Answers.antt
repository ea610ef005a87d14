use Rattle.std.proofs.Common.{◌≡◌, ◌-◌, ◌/◌, ◌++◌, ◌^◌, [], ◌∷◌, ◌∙◌, sym, ap, map, take, arith}
use Rattle.std.proofs.Common.{slice_index_or, ◌<◌, subst}
use Rattle.std.proofs.lemmas.List.{map-append, map_more, take_all}
use Rattle.circle_field.specs.Circle.{origin}
use Rattle.circle_point.specs.Point.{coordinates}
use Rattle.circle_folding.specs.Queries.{query_point}
use Rattle.circle_folding.proofs.Places.{place-below, point-at}
use Rattle.circle_folding.proofs.reduced.query_points.Goals as goal

pub overflow_shr-place : goal.overflow_shr-place
overflow_shr-place g c = omega (arith, c.requires.small)

pub cfft_permute_index-requires-clause-small : goal.cfft_permute_index-requires-clause-small
cfft_permute_index-requires-clause-small g c = omega (arith, c.requires.within, c.requires.small)

pub standard-domain-requires : goal.standard-domain-requires
standard-domain-requires g c = omega (arith, c.requires.in_group)

pub loop-query-init : goal.loop-query-init
loop-query-init g c = ap (map coordinates) c.in_ok-points.ensures.items

pub nth_point-requires-clause-positive : goal.nth_point-requires-clause-positive
nth_point-requires-clause-positive g c =
    omega (arith, c.standard-domain.ensures.size, c.requires.positive)

pub nth_point-requires-clause-in_group : goal.nth_point-requires-clause-in_group
nth_point-requires-clause-in_group g c =
    omega (arith, c.standard-domain.ensures.size, c.requires.in_group)

pub nth_point-requires-clause-in_range : goal.nth_point-requires-clause-in_range
nth_point-requires-clause-in_range g c =
    subst (λ n. c.cfft_permute_index.result < 2 ^ n) (sym c.standard-domain.ensures.size)
    c.cfft_permute_index.ensures.below

pub cfft_permute_index-requires-clause-in_range : goal.cfft_permute_index-requires-clause-in_range
cfft_permute_index-requires-clause-in_range g c =
    place-below (slice_index_or c.args.queries.now c.loop-query.query-index 0) c.args.log_height
    c.args.log_max_height c.requires.within
    (c.requires.below c.loop-query.query-index 0 c.loop-query-test.true)

pub loop-query-preserved : goal.loop-query-preserved
loop-query-preserved g c =
    let k = g.F.Operations.ops in
    let h = c.args.log_height in
    let queries = c.args.queries.now in
    let i = c.loop-query.query-index in
    let f = query_point k g.F.ComplexExtendable.generators h c.args.log_max_height in
    let q = slice_index_or queries i 0 in
    let at : coordinates c.nth_point.result ≡ f q =
    point-at g.F.Operations.laws.ring g.met.F.ComplexExtendable.generators_law h _
    (q / 2 ^ (c.args.log_max_height - h)) _ _ (coordinates c.nth_point.result) (origin k)
    c.requires.positive (omega (arith, c.requires.in_group))
    (place-below q h c.args.log_max_height c.requires.within
    (c.requires.below i 0 c.loop-query-test.true))
    c.standard-domain.ensures.size c.standard-domain.ensures.shift
    c.cfft_permute_index.ensures.value c.nth_point.ensures in
    ap (map coordinates) c.in_ok-push.ensures.items
    ∙ map-append coordinates c.loop-query.points.items (c.nth_point.result ∷ [])
    ∙ ap (λ ps. ps ++ coordinates c.nth_point.result ∷ []) c.loop-query.invariant
    ∙ ap (λ p. map f (take i queries) ++ p ∷ []) at
    ∙ sym (map_more f queries i 0 c.loop-query-test.true)

pub returns : goal.returns
returns g c =
    c.loop-query.invariant
    ∙ ap
    (map (query_point g.F.Operations.ops g.F.ComplexExtendable.generators c.args.log_height
    c.args.log_max_height))
    (take_all c.loop-query.query-index c.args.queries.now
    (omega (arith, c.loop-query-test.false)))
