use Rattle.std.proofs.Common.{◌++◌, [], ◌∷◌, ◌∙◌, List, sym, ap, arith, map, take}
use Rattle.std.specs.Borrow.{Bor}
use Rattle.std.proofs.lemmas.List.{map-append, map_more, take_all}
use Rattle.circle_domain.specs.declared.lagrange.LagrangeWeights.{LagrangeWeights}
use Rattle.circle_plane.proofs.cfft.shares_of.Goals as goal

pub loop-w-preserved : goal.loop-w-preserved
loop-w-preserved g c =
    let seen = λ (s : Bor (List g.row.EF.Denot)). s.now in
    let shares = λ (w : Bor (LagrangeWeights g.row.EF.Denot)). w.now.shares.items in
    let i = c.loop-w.w-index in
    let weights = c.args.weights.now in
    let w = c.w-item.result in
    ap (map seen) c.in_ok-push.ensures.items
    ∙ map-append seen c.loop-w.lent.items (c.as_slice.result ∷ [])
    ∙ ap (λ xs. xs ++ c.as_slice.result.now ∷ []) c.loop-w.invariant
    ∙ ap (λ x. map shares (take i weights) ++ x ∷ [])
    (c.as_slice.ensures.value ∙ ap shares c.w-item.is)
    ∙ sym (map_more shares weights i w c.loop-w-test.true)

pub returns : goal.returns
returns g c =
    let shares = λ (w : Bor (LagrangeWeights g.row.EF.Denot)). w.now.shares.items in
    c.loop-w.invariant
    ∙ ap (map shares)
    (take_all c.loop-w.w-index c.args.weights.now (omega (arith, c.loop-w-test.false)))
