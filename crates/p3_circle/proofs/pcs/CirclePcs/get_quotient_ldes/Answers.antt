use Rattle.std.proofs.Common.{◌∙◌, sym, subst}
use Rattle.std.specs.Prelude.{All}
use Rattle.p3_circle.specs.Committing.{HaveRowsForPoints, IsExtendable}
use Rattle.p3_circle.proofs.CommitTests.{all-extendable}
use Rattle.p3_circle.proofs.pcs.CirclePcs.get_quotient_ldes.Goals as goal

pub validate_evaluations-requires : goal.validate_evaluations-requires
validate_evaluations-requires g c = subst HaveRowsForPoints (sym c.deref.ensures.value) c.requires

pub extensions-requires-clause-rows : goal.extensions-requires-clause-rows
extensions-requires-clause-rows g c = c.requires

pub extensions-requires-clause-extendable : goal.extensions-requires-clause-extendable
extensions-requires-clause-extendable g c =
    let two = g.Val.ComplexExtendable.CIRCLE_TWO_ADICITY in
    let p = c.args.self.now.fri_params in
    subst (All (λ e. IsExtendable g.Val.Operations.ops two p.log_blowup e.0)) c.deref.ensures.value
    (all-extendable g.Val.PartialEq.eq g.met.Val.Field.eq_law g.Val.Operations.ops two p
    c.deref.result.now (sym c.validate_evaluations.ensures ∙ c.in_ok-validate_evaluations.was))
