use Rattle.circle_challenger.proofs.Draws.{after_all-read}
use Rattle.circle_challenger.proofs.challenger.FieldChallenger.observe_algebra_element.Goals as goal

pub loop-i-preserved : goal.loop-i-preserved
loop-i-preserved g c =
    let begun = g.Self.ChallengerState.state c.args.self.now in
    let xs = g.EF.ExtensionField.coefficients c.args.value.now in
    after_all-read g.Self.CanObserve.after_observe begun _ _ xs c.loop-i.i _ c.loop-i.invariant
    c.coefficient.ensures c.observe.ensures
