use Rattle.std.proofs.Common.{◌+◌, ◌∙◌, refl, sym, ap, subst, arith, take}
use Rattle.std.specs.Prelude.{IfSome}
use Rattle.std.specs.List.{AllZip}
use Rattle.std.proofs.lemmas.List.{take_all}
use Rattle.circle_field.proofs.Inverses.{some_unless}
use Rattle.circle_codewords.specs.OfMatrices.{AreWeightsFor, IsFor}
use Rattle.circle_codewords.specs.declared.matrix.PointWeights.{PointWeights}
use Rattle.circle_codewords.specs.declared.points.OpeningPoint.{OpeningPoint}
use Rattle.circle_codewords.proofs.Known.{weights-for}
use Rattle.circle_codewords.proofs.Zips.{pushed-more}
use Rattle.circle_codewords.proofs.matrix.MatrixAtPoints.weights_at_each.Goals as goal

pub unwrap-known-requires : goal.unwrap-known-requires
unwrap-known-requires g c =
    some_unless c.weights_at.result (λ none.
    let known = c.requires c.loop-point.point-index c.point-item.result c.loop-point-test.true in
    let Weights : Type 0 = PointWeights g.row.F.Denot g.row.EF.Denot _ in
    c.weights_at.ensures.none none known.0 known.1 known.2
    (ap (λ (w : Weights). w.log_blowup) known.3 ∙ known.4.0)
    (ap (λ (w : Weights). w.log_height) known.3 ∙ known.4.1)
    (ap (λ (w : Weights). w.point) known.3 ∙ known.4.2
    ∙ sym (ap (λ (p : OpeningPoint g.row.EF.Denot _). p.coordinate) c.point-item.is)))

pub loop-point-preserved : goal.loop-point-preserved
loop-point-preserved g c =
    let points = c.args.self.now.points.now in
    let i = c.loop-point.point-index in
    let p = c.point-item.result in
    let w = c.unwrap-known.result in
    let Is = AreWeightsFor c.args.self.now c.args.log_blowup in
    let found =
    let h = c.args.self.now.log_height in
    subst (λ o. IfSome o (λ f. IsFor c.args.log_blowup h p.coordinate f.now))
    c.unwrap-known.ensures c.weights_at.ensures.some in
    subst (AllZip Is (take (i + 1) points)) (sym c.in_ok-push.ensures.items)
    (pushed-more Is points i p c.loop-point.lent.items _ c.loop-point-test.true c.point-item.is
    c.loop-point.invariant
    (weights-for c.args.self.now c.args.log_blowup p w.now _ found refl))

pub returns : goal.returns
returns g c =
    subst (λ ts. AllZip (AreWeightsFor c.args.self.now c.args.log_blowup) ts
    c.loop-point.lent.items)
    (take_all c.loop-point.point-index c.args.self.now.points.now
    (omega (arith, c.loop-point-test.false))) c.loop-point.invariant
