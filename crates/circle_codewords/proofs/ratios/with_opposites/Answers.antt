use Rattle.std.proofs.Common.{◌++◌, [], ◌∷◌, ◌∙◌, ap, arith, map, refl}
use Rattle.std.proofs.lemmas.List.{take_all, map-append}
use Rattle.circle_point.specs.Point.{coordinates}
use Rattle.circle_domain.specs.Order.{with_opposites}
use Rattle.circle_codewords.proofs.DomainPoints.{opposites-more}
use Rattle.circle_codewords.proofs.ratios.with_opposites.Goals as goal

pub loop-point-preserved : goal.loop-point-preserved
loop-point-preserved g c =
    let p = c.point-item.result in
    let o = c.neg.result in
    let old = c.loop-point.points.items in
    opposites-more g.F.Operations.ops coordinates c.args.first.now c.loop-point.point-index p
    (map coordinates old) (map coordinates c.push-in-loop-point.new.self.items) (coordinates p)
    (coordinates o)
    c.loop-point-test.true c.point-item.is
    (ap (map coordinates)
    (c.in_ok-push-2.ensures.items ∙ ap (λ xs. xs ++ o ∷ []) c.in_ok-push.ensures.items)
    ∙ map-append coordinates (old ++ p ∷ []) (o ∷ [])
    ∙ ap (λ xs. xs ++ coordinates o ∷ []) (map-append coordinates old (p ∷ [])))
    c.loop-point.invariant refl c.neg.ensures.opposite

pub returns : goal.returns
returns g c = c.loop-point.invariant
    ∙ ap (λ ps. with_opposites g.F.Operations.ops (map coordinates ps))
    (take_all c.loop-point.point-index c.args.first.now (omega (arith, c.loop-point-test.false)))
