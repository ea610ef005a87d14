use Rattle.circle_transcript.specs.Shape.{query_steps}
use Rattle.circle_transcript.proofs.Steps.{pushed, guarded}
use Rattle.circle_transcript.proofs.shape.push_query.Goals as goal

pub returns : goal.returns
unfolding query_steps
returns c =
    guarded _ _ _ _ _ _ _ (pushed _ _ _ _ c.in_ok-push.ensures.items c.final_poly.ensures)
    c.in_ok-push_pow.ensures
    (pushed _ _ _ _ c.in_ok-push-2.ensures.items c.bits.ensures)
