use Rattle.std.proofs.Common.{◌≡◌, ◌++◌, [], ◌∷◌, ◌∙◌, sym, ap, map, take, slice_index_or, arith}
use Rattle.std.proofs.Common.{◌<◌, ◌^◌, subst}
use Rattle.std.proofs.lemmas.List.{take_more, length-map, get_or-map}
use Rattle.circle_point.specs.Point.{coordinates}
use Rattle.circle_domain.specs.Domain.{log_size, shift_of}
use Rattle.circle_folding.specs.Chain.{round_twiddle}
use Rattle.circle_folding.proofs.Queries.{first-twiddle}
use Rattle.circle_folding.proofs.query.first_x_twiddles.Goals as goal

pub standard-domain-requires : goal.standard-domain-requires
standard-domain-requires g c = omega (arith, c.requires.in_group)

pub cfft_permute_index-requires-clause-small : goal.cfft_permute_index-requires-clause-small
cfft_permute_index-requires-clause-small g c =
    omega (arith, c.requires.in_group, g.met.F.ComplexExtendable.at_most_62)

pub cfft_permute_index-requires-clause-in_range : goal.cfft_permute_index-requires-clause-in_range
cfft_permute_index-requires-clause-in_range g c =
    omega (arith, c.requires.in_range c.loop-index.index-index 0 c.loop-index-test.true)

pub nth_point-point-requires-clause-positive : goal.nth_point-point-requires-clause-positive
nth_point-point-requires-clause-positive g c =
    omega (arith, c.standard-domain.ensures.size, c.requires.height)

pub nth_point-point-requires-clause-in_group : goal.nth_point-point-requires-clause-in_group
nth_point-point-requires-clause-in_group g c =
    omega (arith, c.standard-domain.ensures.size, c.requires.in_group)

pub nth_point-point-requires-clause-in_range : goal.nth_point-point-requires-clause-in_range
nth_point-point-requires-clause-in_range g c =
    subst (λ n. c.cfft_permute_index.result < 2 ^ n) (sym c.standard-domain.ensures.size)
    c.cfft_permute_index.ensures.below

pub loop-index-init : goal.loop-index-init
loop-index-init g c = c.in_ok-twiddles.ensures.items

pub loop-index-preserved : goal.loop-index-preserved
loop-index-preserved g c =
    let k = g.F.Operations.ops in
    let gen = g.F.ComplexExtendable.generators in
    let h = c.args.log_max_height in
    let qs = c.args.indices.now in
    let i = c.loop-index.index-index in
    let q = slice_index_or qs i 0 in
    let t = c.x.result in
    let all = map (round_twiddle k gen h 0) qs in
    let here : t ≡ round_twiddle k gen h 0 q =
    c.x.ensures ∙ first-twiddle g.F.Operations.laws g.met.F.ComplexExtendable.generators_law h
    (log_size c.standard-domain.result) q c.cfft_permute_index.result
    (shift_of c.standard-domain.result) (coordinates c.nth_point-point.result)
    c.requires.height c.requires.in_group g.met.F.ComplexExtendable.at_most_62
    (c.requires.in_range i 0 c.loop-index-test.true)
    c.standard-domain.ensures.size c.standard-domain.ensures.shift
    c.cfft_permute_index.ensures.value c.nth_point-point.ensures in
    c.in_ok-push.ensures.items
    ∙ ap (λ before. before ++ t ∷ []) c.loop-index.invariant
    ∙ ap (λ x. take i all ++ x ∷ [])
    (here ∙ sym (get_or-map (round_twiddle k gen h 0) qs i 0 t c.loop-index-test.true))
    ∙ sym
    (take_more all i t
    (omega (arith, c.loop-index-test.true, length-map qs (round_twiddle k gen h 0))))
