use Rattle.std.proofs.Common.{◌≡◌, take}
use Rattle.circle_challenger.specs.Sampling.{samples, after_samples}
use Rattle.circle_challenger.proofs.challenger.FieldChallenger.sample_algebra_element.Given as goal

-- the coefficients so far are what was drawn
abbrev pub invariant-loop-i : goal.invariant-loop-i
invariant-loop-i g l =
    let state = g.Self.ChallengerState.state in
    let next = g.Self.CanSample.after_sample in
    (take l.i (g.EF.ExtensionField.coefficients l.value)
    ≡ samples g.Self.CanSample.sampled next l.i (state l.initial.self))
    × (state l.self ≡ after_samples next l.i (state l.initial.self))
