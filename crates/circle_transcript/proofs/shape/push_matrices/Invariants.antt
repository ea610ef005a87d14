use Rattle.std.proofs.Common.{◌≡◌, ◌++◌, map, take, flat_map}
use Rattle.circle_challenger.specs.Interaction.{step_of}
use Rattle.circle_transcript.specs.Shape.{claim_steps}
use Rattle.circle_transcript.specs.ShapeOf.{matrices_of}
use Rattle.circle_transcript.proofs.shape.push_matrices.Given as goal

-- the steps of the matrices so far are there
abbrev pub invariant-loop-matrix : goal.invariant-loop-matrix
invariant-loop-matrix l = map step_of l.steps.items ≡ map step_of l.initial.steps.items
    ++ flat_map (claim_steps l.degree)
    (flat_map (λ m. m) (matrices_of (take l.matrix-index l.matrices)))
