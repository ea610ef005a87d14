use Rattle.std.proofs.Common.{ℕ, ◌<◌, ◌^◌, [], ◌∷◌, ◌++◌, sym, ◌∙◌, subst}
use Rattle.std.proofs.lemmas.List.Elements.{All-nil, All-same, All-push}
use Rattle.circle_challenger.proofs.Draws.{samples-zero, samples-more, after_samples-zero}
use Rattle.circle_challenger.proofs.Draws.{after_samples-more}
use Rattle.circle_challenger.proofs.state.sample_numbers.Goals as goal

pub loop-i-init : goal.loop-i-init
loop-i-init g c =
    let bits = g.C.CanSampleBits in
    let begun = g.C.ChallengerState.state c.args.challenger.now in
    let small = λ (i : ℕ). i < 2 ^ c.args.width in
    record {
      numbers = c.in_ok-numbers.ensures.items
          ∙ sym
          (samples-zero (λ s. bits.sampled_bits s c.args.width)
          (λ s. bits.after_bits s c.args.width) begun);
      below = All-same small c.in_ok-numbers.numbers.items _ c.in_ok-numbers.ensures.items
          (All-nil small);
      state = sym (after_samples-zero (λ s. bits.after_bits s c.args.width) begun);
    }

pub loop-i-preserved : goal.loop-i-preserved
loop-i-preserved g c =
    let bits = g.C.CanSampleBits in
    let begun = g.C.ChallengerState.state c.args.challenger.now in
    let state = g.C.ChallengerState.state c.loop-i.challenger in
    let small = λ (i : ℕ). i < 2 ^ c.args.width in
    let xs = c.loop-i.numbers.items in
    let x = c.sample_bits.result in
    let drawn : small x =
    subst small (sym c.sample_bits.ensures.value)
    (g.met.C.CanSampleBits.bits_below state c.args.width c.requires) in
    record {
      numbers =
          samples-more (λ s. bits.sampled_bits s c.args.width) (λ s. bits.after_bits s c.args.width)
          begun state c.loop-i._i c.loop-i.invariant.state xs c.push.new.self.items x
          c.loop-i.invariant.numbers c.sample_bits.ensures.value c.in_ok-push.ensures.items;
      below = All-same small c.push.new.self.items (xs ++ x ∷ []) c.in_ok-push.ensures.items
          (All-push small xs x c.loop-i.invariant.below drawn);
      state =
          after_samples-more (λ s. bits.sampled_bits s c.args.width)
          (λ s. bits.after_bits s c.args.width) begun state c.loop-i._i c.loop-i.invariant.state
          (g.C.ChallengerState.state c.sample_bits.new.self) c.sample_bits.ensures.after;
    }
