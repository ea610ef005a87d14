-- The run that the transcripts play.
use Rattle.std.specs.Prelude.{◌≡◌, List, ◌++◌, ◌∷◌, []}
use Rattle.circle_challenger.specs.Step.{Step}
use Rattle.circle_transcript.specs.Numbers.{indices_steps}
use Rattle.circle_transcript.specs.Shape.{batch_steps, first_layer_steps, round_steps}
use Rattle.circle_transcript.specs.declared.transcript.Numbers.{Numbers}

-- the steps are a claim of one column, the first layer, a round and the queries
abbrev pub IsRun : Numbers → List Step → Type 0
IsRun n due =
    due ≡ batch_steps 3 (1 ∷ []) n.batch_pow_bits
    ++ (first_layer_steps 3 ++ (round_steps 3 n.commit_pow_bits ++ indices_steps 3 n))
