use Rattle.std.proofs.Common.{◌≡◌, ◌<◌, ◌^◌, All}
use Rattle.circle_challenger.specs.Sampling.{samples, after_samples}
use Rattle.circle_challenger.proofs.state.sample_numbers.Given as goal

-- the numbers so far are what was drawn
abbrev pub invariant-loop-i : goal.invariant-loop-i
invariant-loop-i g l =
    let bits = g.C.CanSampleBits in
    let begun = g.C.ChallengerState.state l.initial.challenger in
    record {
      numbers : l.numbers.items
          ≡ samples (λ s. bits.sampled_bits s l.width) (λ s. bits.after_bits s l.width) l._i begun;
      below : All (λ i. i < 2 ^ l.width) l.numbers.items;
      state : g.C.ChallengerState.state l.challenger
          ≡ after_samples (λ s. bits.after_bits s l.width) l._i begun;
    }
