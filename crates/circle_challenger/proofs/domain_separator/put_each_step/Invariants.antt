use Rattle.std.proofs.Common.{◌≡◌, ◌++◌, map, take, flat_map, All}
use Rattle.circle_challenger.specs.Interaction.{step_of}
use Rattle.circle_challenger.specs.Step.{IsWritableStep, step_text}
use Rattle.circle_challenger.proofs.domain_separator.put_each_step.Given as goal

-- the texts of the steps so far are written
abbrev pub invariant-loop-step : goal.invariant-loop-step
invariant-loop-step l = record {
  written : l.text.items ≡ l.initial.text.items
      ++ flat_map step_text (map step_of (take l.step-index l.steps));
  writable : All (λ i. IsWritableStep (step_of i)) (take l.step-index l.steps);
}
