use Rattle.std.proofs.Common.{◌≤◌, List, Bor, length, take, arith, subst, All}
use Rattle.std.proofs.lemmas.List.{take_all}
use Rattle.std.proofs.lemmas.List.Elements.{All-more, All-weaker}
use Rattle.circle_point.specs.declared.point.Point.{Point}
use Rattle.circle_verifier.proofs.reduced.greatest_width.Goals as goal

pub loop-values-preserved : goal.loop-values-preserved
loop-values-preserved g c =
    let claims = c.args.claims.now in
    let i = c.loop-values.values-index in
    let claim = c.loop-values-item.result in
    let Fits = λ (d : Point g.row.EF.Denot g.EF.Operations × Bor (List g.row.EF.Denot)).
    length d.1.now ≤ c.max-width.result in
    All-more Fits claims i claim c.loop-values-test.true
    (All-weaker (λ d. length d.1.now ≤ c.loop-values.width) Fits
    (λ d le. omega (arith, le, c.max-width.ensures)) (take i claims) c.loop-values.invariant)
    (subst Fits c.loop-values-item.is (omega (arith, c.max-width.ensures)))

pub returns : goal.returns
returns g c =
    let claims = c.args.claims.now in
    subst (All (λ d. length d.1.now ≤ c.loop-values.width))
    (take_all c.loop-values.values-index claims c.loop-values-test.false) c.loop-values.invariant
