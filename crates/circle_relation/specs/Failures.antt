-- What a prover returns where its transcript fails.
use Rattle.circle_relation.specs.declared.error.ProverError.{ProverError}
use Rattle.circle_relation.specs.declared.error.ProverError.TheVariants.{Memory, NoGrindingWitness}
use Rattle.circle_transcript.specs.declared.failure.CircleTranscriptFailure.{CircleTranscriptFailure}
use Rattle.circle_transcript.specs.declared.failure.CircleTranscriptFailure.TheVariants.{PowWitness}
use Rattle.circle_transcript.specs.declared.failure.CircleTranscriptFailure.TheVariants.{NoWitness}
use Rattle.circle_transcript.specs.declared.failure.CircleTranscriptFailure.TheVariants.{Memory as OutOfMemory}

-- the refusal that a transcript's failure is returned as
abbrev pub prover_error : CircleTranscriptFailure → ProverError
prover_error (PowWitness phase bits) = NoGrindingWitness phase
prover_error (NoWitness phase bits) = NoGrindingWitness phase
prover_error OutOfMemory = Memory
