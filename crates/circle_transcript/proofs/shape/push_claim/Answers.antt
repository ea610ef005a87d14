use Rattle.circle_transcript.specs.Shape.{claim_steps}
use Rattle.circle_transcript.proofs.Steps.{pushed, twice}
use Rattle.circle_transcript.proofs.shape.push_claim.Goals as goal

pub returns : goal.returns
unfolding claim_steps
returns c =
    twice _ _ _ _ _ (pushed _ _ _ _ c.in_ok-push.ensures.items c.algebra.ensures)
    (pushed _ _ _ _ c.in_ok-push-2.ensures.items c.algebra-2.ensures)
