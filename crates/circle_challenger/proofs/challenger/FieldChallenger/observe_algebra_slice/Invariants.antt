use Rattle.std.proofs.Common.{◌≡◌, take, flat_map}
use Rattle.circle_challenger.specs.Observing.{after_all}
use Rattle.circle_challenger.proofs.challenger.FieldChallenger.observe_algebra_slice.Given as goal

-- the values so far were absorbed
abbrev pub invariant-loop-value : goal.invariant-loop-value
invariant-loop-value g l =
    let state = g.Self.ChallengerState.state in
    state l.self ≡ after_all g.Self.CanObserve.after_observe (state l.initial.self)
    (flat_map g.EF.ExtensionField.coefficients (take l.value-index l.values))
