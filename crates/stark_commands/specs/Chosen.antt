-- Why proofs are refused or not made, to contracts, at the one choice of types that is built.
use Rattle.stark_commands.specs.Preset.{Preset}
use Rattle.stark_commands.specs.contracts.preset.ChallengerHasPreset.TheImpl as chosen

abbrev pub stark : Preset
stark = chosen.ghosts.preset
