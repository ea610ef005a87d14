use Rattle.circle_transcript.proofs.Steps.{pushed, then_one}
use Rattle.circle_transcript.proofs.shape.push_batch_challenge.Goals as goal

pub returns : goal.returns
returns c =
    then_one _ _ _ _ _ c.in_ok-push_pow.ensures
    (pushed _ _ _ _ c.in_ok-push.ensures.items c.algebra.ensures)
