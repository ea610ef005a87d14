use Rattle.circle_challenger.proofs.Draws.{after_all-pair}
use Rattle.circle_challenger.proofs.state.TranscriptState.observe_extension_pair.Goals as goal

pub returns-clause-state : goal.returns-clause-state
returns-clause-state g c =
    let coefficients = g.EF.ExtensionField.coefficients in
    let begun = g.C.ChallengerState.state c.args.self.now.challenger.now in
    after_all-pair g.C.CanObserve.after_observe begun _ _ (coefficients c.args.first.now)
    (coefficients c.args.second.now) c.observe_algebra_element.ensures
    c.observe_algebra_element-2.ensures
