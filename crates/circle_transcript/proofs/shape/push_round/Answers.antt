use Rattle.circle_transcript.specs.Shape.{round_steps}
use Rattle.circle_transcript.proofs.Steps.{pushed, guarded}
use Rattle.circle_transcript.proofs.shape.push_round.Goals as goal

pub returns : goal.returns
unfolding round_steps
returns c =
    guarded _ _ _ _ _ _ _ (pushed _ _ _ _ c.in_ok-push.ensures.items c.opaque.ensures)
    c.in_ok-push_pow.ensures
    (pushed _ _ _ _ c.in_ok-push-2.ensures.items c.algebra.ensures)
