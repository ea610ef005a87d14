use Rattle.std.proofs.Common.{sym, subst, arith, take, All}
use Rattle.std.specs.List.{Any}
use Rattle.std.proofs.lemmas.List.{take_all}
use Rattle.std.proofs.lemmas.List.Elements.{All-more, All-weaker}
use Rattle.circle_codewords.specs.OfMatrices.{IsFor, fields_at}
use Rattle.circle_codewords.specs.Values.{IsOffDomain}
use Rattle.circle_codewords.specs.declared.points.OpeningPoint.{OpeningPoint}
use Rattle.circle_codewords.proofs.AtPoints.{All-unmap}
use Rattle.circle_codewords.proofs.matrix.MatrixAtPoints.add_all_weights.Goals as goal

pub add_weights-requires-clause-off : goal.add_weights-requires-clause-off
add_weights-requires-clause-off g c =
    let m = c.args.self.now in
    let IsOff = IsOffDomain (fields_at m) m.log_height in
    subst (λ (p : OpeningPoint g.row.EF.Denot _). IsOff p.coordinate) (sym c.point-item.is)
    (All-unmap IsOff (λ (p : OpeningPoint g.row.EF.Denot _). p.coordinate) m.points.now
    m.openable.off.1 c.loop-point.point-index c.point-item.result c.loop-point-test.true)

pub loop-point-preserved : goal.loop-point-preserved
loop-point-preserved g c =
    let points = c.args.self.now.points.now in
    let i = c.loop-point.point-index in
    let Is = IsFor c.args.log_blowup c.args.self.now.log_height in
    let Known : OpeningPoint g.row.EF.Denot _ → Type 0 =
    λ p. Any (Is p.coordinate) c.add_weights.new.all.items in
    All-more Known points i c.point-item.result c.loop-point-test.true
    (All-weaker (λ p. Any (Is p.coordinate) c.loop-point.all.items) Known
    (λ p known. c.in_ok-add_weights.ensures.kept p.coordinate known)
    (take i points) c.loop-point.invariant)
    (subst Known c.point-item.is c.in_ok-add_weights.ensures.known)

pub returns : goal.returns
returns g c =
    subst
    (All (λ (p : OpeningPoint g.row.EF.Denot _). Any
    (IsFor c.args.log_blowup c.args.self.now.log_height p.coordinate) c.loop-point.all.items))
    (take_all c.loop-point.point-index c.args.self.now.points.now
    (omega (arith, c.loop-point-test.false))) c.loop-point.invariant
