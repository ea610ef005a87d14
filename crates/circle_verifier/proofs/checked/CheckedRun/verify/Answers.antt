use Rattle.std.proofs.Common.{◌∙◌, subst}
use Rattle.std.specs.Result.{IfErr}
use Rattle.std.proofs.lemmas.Result.{IfOk-from_err}
use Rattle.circle_commit.specs.declared.error.FriError.TheVariants.{Memory}
use Rattle.circle_relation.specs.Reasons.{IsReason}
use Rattle.circle_relation.proofs.Results.{on_one}
use Rattle.circle_verifier.specs.OfRun.{Refuses, FirstLayerAuthenticates, RoundsAuthenticate}
use Rattle.circle_verifier.specs.OfRun.{ChainsEnd}
use Rattle.circle_verifier.proofs.ReducedValues.{handed_on}
use Rattle.circle_verifier.proofs.checked.CheckedRun.verify.Goals as goal

pub
    returns-in_err-authenticate_inputs-clause-holds :
    goal.returns-in_err-authenticate_inputs-clause-holds
returns-in_err-authenticate_inputs-clause-holds g c =
    IfOk-from_err c.from_residual.result _ c.from_residual.ensures.0

pub
    returns-in_err-authenticate_inputs-clause-refused :
    goal.returns-in_err-authenticate_inputs-clause-refused
returns-in_err-authenticate_inputs-clause-refused g c =
    handed_on c.from_residual.result c.in_err-authenticate_inputs.field-0.0
    (Refuses c.args.self.now.run) c.from_residual.ensures.1
    c.in_err-authenticate_inputs.ensures.refused

pub returns-in_err-reduced-clause-holds : goal.returns-in_err-reduced-clause-holds
returns-in_err-reduced-clause-holds g c =
    IfOk-from_err c.from_residual-in_err-reduced.result _ c.from_residual-in_err-reduced.ensures.0

pub returns-in_err-reduced-clause-refused : goal.returns-in_err-reduced-clause-refused
returns-in_err-reduced-clause-refused g c =
    handed_on c.from_residual-in_err-reduced.result c.in_err-reduced.field-0.0
    (Refuses c.args.self.now.run) c.from_residual-in_err-reduced.ensures.1
    c.in_err-reduced.ensures.refused

pub returns-in_err-layer-clause-holds : goal.returns-in_err-layer-clause-holds
returns-in_err-layer-clause-holds g c =
    IfOk-from_err c.from_residual-in_err-layer.result _ c.from_residual-in_err-layer.ensures.0

pub returns-in_err-layer-clause-refused : goal.returns-in_err-layer-clause-refused
unfolding IsReason
returns-in_err-layer-clause-refused g c =
    handed_on c.from_residual-in_err-layer.result Memory (Refuses c.args.self.now.run)
    c.from_residual-in_err-layer.ensures.1
    tt

pub
    returns-in_err-authenticate_first_layer-clause-holds :
    goal.returns-in_err-authenticate_first_layer-clause-holds
returns-in_err-authenticate_first_layer-clause-holds g c =
    IfOk-from_err c.from_residual-in_err-authenticate_first_layer.result _
    c.from_residual-in_err-authenticate_first_layer.ensures.0

pub
    returns-in_err-authenticate_first_layer-clause-refused :
    goal.returns-in_err-authenticate_first_layer-clause-refused
returns-in_err-authenticate_first_layer-clause-refused g c =
    handed_on c.from_residual-in_err-authenticate_first_layer.result
    c.in_err-authenticate_first_layer.field-0.0 (Refuses c.args.self.now.run)
    c.from_residual-in_err-authenticate_first_layer.ensures.1
    (subst (λ run. Refuses run.run c.in_err-authenticate_first_layer.field-0.0)
    (c.in_ok-layer.ensures.run ∙ c.in_ok-reduced.ensures.run)
    c.in_err-authenticate_first_layer.ensures.refused)

pub returns-in_err-last-clause-holds : goal.returns-in_err-last-clause-holds
returns-in_err-last-clause-holds g c =
    IfOk-from_err c.from_residual-in_err-last.result _ c.from_residual-in_err-last.ensures.0

pub returns-in_err-last-clause-refused : goal.returns-in_err-last-clause-refused
returns-in_err-last-clause-refused g c =
    handed_on c.from_residual-in_err-last.result c.in_err-last.field-0.0
    (Refuses c.args.self.now.run) c.from_residual-in_err-last.ensures.1
    (subst (λ run. Refuses run.run c.in_err-last.field-0.0)
    (c.in_ok-layer.ensures.run ∙ c.in_ok-reduced.ensures.run) c.in_err-last.ensures.refused)

pub returns-clause-holds : goal.returns-clause-holds
returns-clause-holds g c =
    let same = c.in_ok-layer.ensures.run ∙ c.in_ok-reduced.ensures.run in
    on_one c.check_final.result
    (λ ended. record {
      inputs_authenticate = c.in_ok-authenticate_inputs.ensures.shown;
      apart = c.in_ok-reduced.ensures.apart;
      first_layer =
          subst (λ checked. FirstLayerAuthenticates checked.run) same
          c.in_ok-authenticate_first_layer.ensures.shown;
      rounds_authenticate =
          subst (λ checked. RoundsAuthenticate checked.run) same c.in_ok-last.ensures.shown;
      chains =
          subst (λ checked. ChainsEnd checked.run) (c.in_ok-last.ensures.run ∙ same) ended;
    }) c.check_final.ensures.ended

pub returns-clause-refused : goal.returns-clause-refused
returns-clause-refused g c =
    let same = c.in_ok-last.ensures.run ∙ c.in_ok-layer.ensures.run ∙ c.in_ok-reduced.ensures.run in
    subst (λ checked. IfErr c.check_final.result (Refuses checked.run)) same
    c.check_final.ensures.refused
