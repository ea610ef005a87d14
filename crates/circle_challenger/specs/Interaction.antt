-- An `Interaction` as the step that it describes.
use Rattle.circle_challenger.specs.declared.interaction.Interaction.{Interaction}
use Rattle.circle_challenger.specs.Step.{Step, step}

-- the step that is described
abbrev pub step_of : Interaction → Step
step_of i = step i.hierarchy i.kind i.value_type i.label.now i.length
