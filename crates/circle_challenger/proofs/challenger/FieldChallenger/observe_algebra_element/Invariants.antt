use Rattle.std.proofs.Common.{◌≡◌, take}
use Rattle.circle_challenger.specs.Observing.{after_all}
use Rattle.circle_challenger.proofs.challenger.FieldChallenger.observe_algebra_element.Given as goal

-- the coefficients so far were absorbed
abbrev pub invariant-loop-i : goal.invariant-loop-i
invariant-loop-i g l =
    let state = g.Self.ChallengerState.state in
    state l.self ≡ after_all g.Self.CanObserve.after_observe (state l.initial.self)
    (take l.i (g.EF.ExtensionField.coefficients l.value))
