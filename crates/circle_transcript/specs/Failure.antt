-- Why a transcript fails, as contracts see it.
use Rattle.std.specs.Prelude.{◌≡◌, ◌⊎◌}
use Rattle.circle_commit.specs.declared.params.PowPhase.{PowPhase}
use Rattle.circle_commit.specs.declared.params.PowPhase.TheVariants.{Query}
use Rattle.circle_transcript.specs.declared.failure.CircleTranscriptFailure.{CircleTranscriptFailure}
use Rattle.circle_transcript.specs.declared.failure.CircleTranscriptFailure.TheVariants.{PowWitness}
use Rattle.circle_transcript.specs.declared.failure.CircleTranscriptFailure.TheVariants.{NoWitness}
use Rattle.circle_transcript.specs.declared.failure.CircleTranscriptFailure.TheVariants.{Memory}

-- the phase that failed
abbrev pub phase_of : CircleTranscriptFailure → PowPhase
phase_of (PowWitness phase bits) = phase
phase_of (NoWitness phase bits) = phase
phase_of Memory = Query

-- memory was refused, or the failure is of this kind
abbrev pub IsMemoryOr : (CircleTranscriptFailure → Type 0) → CircleTranscriptFailure → Type 0
IsMemoryOr P e = (e ≡ Memory) ⊎ P e
