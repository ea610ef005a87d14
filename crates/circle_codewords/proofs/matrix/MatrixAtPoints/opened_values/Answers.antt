use Rattle.std.proofs.Common.{sym, subst, All}
use Rattle.std.specs.List.{AllZip, Any}
use Rattle.circle_codewords.specs.OfMatrices.{AreWeightsFor, IsFor}
use Rattle.circle_codewords.specs.declared.points.OpeningPoint.{OpeningPoint}
use Rattle.circle_codewords.proofs.matrix.MatrixAtPoints.opened_values.Goals as goal

pub weights_at_each-requires : goal.weights_at_each-requires
weights_at_each-requires g c =
    subst
    (λ ws. All (λ (p : OpeningPoint g.row.EF.Denot _). Any
    (IsFor c.args.log_blowup c.args.self.now.log_height p.coordinate) ws)
    c.args.self.now.points.now) (sym c.deref.ensures.value) c.in_ok-add_all_weights.ensures

pub values_by_weights-requires-clause-right : goal.values_by_weights-requires-clause-right
values_by_weights-requires-clause-right g c =
    subst (AllZip (AreWeightsFor c.args.self.now c.args.log_blowup) c.args.self.now.points.now)
    (sym c.deref-2.ensures.value) c.in_ok-weights.ensures
