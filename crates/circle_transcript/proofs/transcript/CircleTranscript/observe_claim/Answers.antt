use Rattle.std.proofs.Common.{◌++◌, [], ap, ◌∙◌}
use Rattle.circle_challenger.specs.Observing.{after_all}
use Rattle.circle_transcript.specs.Draw.{after_claims_by}
use Rattle.circle_transcript.proofs.Playing.{claim_taken}
use Rattle.circle_transcript.proofs.transcript.CircleTranscript.observe_claim.Goals as goal

pub returns-clause-state : goal.returns-clause-state
unfolding after_claims_by
returns-clause-state g c =
    let observe = g.C.CanObserve-1.after_observe in
    let coefficients = g.EF.ExtensionField.coefficients in
    ap g.C.ChallengerState.state c.pause-self.ensures.challenger
    ∙ claim_taken observe coefficients _ _ _ _ _ c.x.result
    c.y.result c.args.values.now c.x.ensures c.y.ensures
    (c.observe_extension_pair.ensures.state
    ∙ ap
    (λ v. after_all observe (g.C.ChallengerState.state v)
    (coefficients c.x.result ++ (coefficients c.y.result ++ [])))
    c.resume-transcript.ensures.challenger) c.observe_extensions.ensures.state
