use Rattle.circle_transcript.specs.Shape.{first_layer_steps}
use Rattle.circle_transcript.proofs.Steps.{pushed, twice}
use Rattle.circle_transcript.proofs.shape.push_first_layer.Goals as goal

pub returns : goal.returns
unfolding first_layer_steps
returns c =
    twice _ _ _ _ _ (pushed _ _ _ _ c.in_ok-push.ensures.items c.opaque.ensures)
    (pushed _ _ _ _ c.in_ok-push-2.ensures.items c.algebra.ensures)
