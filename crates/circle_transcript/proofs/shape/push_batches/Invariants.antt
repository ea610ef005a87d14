use Rattle.std.proofs.Common.{◌≡◌, ◌++◌, map, take, flat_map}
use Rattle.circle_challenger.specs.Interaction.{step_of}
use Rattle.circle_transcript.specs.Shape.{claim_steps}
use Rattle.circle_transcript.specs.ShapeOf.{batches_of}
use Rattle.circle_transcript.proofs.shape.push_batches.Given as goal

-- the steps of the batches so far are there
abbrev pub invariant-loop-batch : goal.invariant-loop-batch
invariant-loop-batch l = map step_of l.steps.items ≡ map step_of l.initial.steps.items
    ++ flat_map (claim_steps l.degree)
    (flat_map (λ m. m) (flat_map (λ b. b) (batches_of (take l.batch-index l.batches))))
