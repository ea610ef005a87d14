-- What the schemes are to contracts at the one choice of types that is built here.
use Rattle.circle_commands.specs.Preset.{Preset}
use Rattle.circle_commands.specs.contracts.preset.ChallengerHasPreset.TheImpl as chosen

abbrev pub preset : Preset
preset = chosen.ghosts.preset
