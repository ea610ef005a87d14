use Rattle.std.proofs.Common.{◌≡◌, ◌++◌, map}
use Rattle.circle_challenger.specs.Interaction.{step_of}
use Rattle.circle_transcript.specs.Shape.{rounds_steps}
use Rattle.circle_transcript.proofs.shape.push_rounds.Given as goal

-- the steps of the rounds so far are there
abbrev pub invariant-loop-round : goal.invariant-loop-round
invariant-loop-round l = map step_of l.steps.items ≡ map step_of l.initial.steps.items
    ++ rounds_steps l.degree l.bits l._round
