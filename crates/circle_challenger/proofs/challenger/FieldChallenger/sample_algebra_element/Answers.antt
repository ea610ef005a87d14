use Rattle.std.proofs.Common.{◌+◌, take, ◌<◌, length, ap, sym, ◌∙◌, arith}
use Rattle.std.proofs.lemmas.List.{take_more_set}
use Rattle.circle_challenger.proofs.Draws.{samples-zero, samples-more, after_samples-zero}
use Rattle.circle_challenger.proofs.Draws.{after_samples-more}
use Rattle.circle_challenger.proofs.challenger.FieldChallenger.sample_algebra_element.Goals as goal

pub loop-i-init : goal.loop-i-init
loop-i-init g c =
    let begun = g.Self.ChallengerState.state c.args.self.now in (
      sym (samples-zero g.Self.CanSample.sampled g.Self.CanSample.after_sample begun),
      sym (after_samples-zero g.Self.CanSample.after_sample begun),
    )

pub loop-i-preserved : goal.loop-i-preserved
loop-i-preserved g c =
    let drawn = g.Self.CanSample.sampled in
    let next = g.Self.CanSample.after_sample in
    let begun = g.Self.ChallengerState.state c.args.self.now in
    let state = g.Self.ChallengerState.state c.loop-i.self in
    let i = c.loop-i.i in
    let xs = g.EF.ExtensionField.coefficients c.loop-i.value in
    let counted = g.met.EF.ExtensionField.are_coefficients.count c.loop-i.value in
    let within : i < length xs = omega arith in
    let read = ap (take (i + 1)) c.with_coefficient-value.ensures
    ∙ take_more_set xs i c.sample.result within in (
      samples-more drawn next begun state i c.loop-i.invariant.1 (take i xs) _ _
          c.loop-i.invariant.0
          c.sample.ensures.value read,
      after_samples-more drawn next begun state i c.loop-i.invariant.1 _ c.sample.ensures.after,
    )
