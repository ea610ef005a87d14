use Rattle.std.proofs.Common.{◌≡◌, ◌++◌, map, take, flat_map}
use Rattle.circle_challenger.specs.Interaction.{step_of}
use Rattle.circle_transcript.specs.Shape.{claim_steps}
use Rattle.circle_transcript.proofs.shape.push_claims.Given as goal

-- the steps of the claims so far are there
abbrev pub invariant-loop-width : goal.invariant-loop-width
invariant-loop-width l = map step_of l.steps.items ≡ map step_of l.initial.steps.items
    ++ flat_map (claim_steps l.degree) (take l.width-index l.widths)
