use Rattle.circle_challenger.specs.Sampling.{samples, after_samples}
use Rattle.circle_transcript.proofs.Playing.{drawn_between}
use Rattle.circle_transcript.proofs.transcript.CircleTranscript.draw_indices.Goals as goal

pub returns-clause-drawn : goal.returns-clause-drawn
returns-clause-drawn g c =
    let bits = g.C.CanSampleBits in
    drawn_between c.challenge_bits-drawn.result (λ v. v.items) g.C.ChallengerState.state
    (samples (λ s. bits.sampled_bits s c.args.width) (λ s. bits.after_bits s c.args.width)
    c.args.count) (after_samples (λ s. bits.after_bits s c.args.width) c.args.count)
    c.args.self.now.challenger.now c.resume-transcript.result.challenger.now
    c.challenge_bits-drawn.new.self.challenger.now _ c.resume-transcript.ensures.challenger
    c.pause-self.ensures.challenger c.challenge_bits-drawn.ensures.values
    c.challenge_bits-drawn.ensures.state
