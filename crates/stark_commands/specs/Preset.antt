-- Why proofs are refused or not made, to contracts, at a choice of types.
use Rattle.circle_challenger.specs.declared.sha256.Sha256Challenger.{Sha256Challenger}
use Rattle.circle_commands.specs.Preset.{Scheme, VerifierError}
use Rattle.circle_field.specs.declared.mersenne31.Mersenne31.{Mersenne31}
use Rattle.circle_stark.specs.declared.error.StarkError.{StarkError}
use Rattle.circle_stark.specs.declared.error.StarkProverError.{StarkProverError}
use Rattle.circle_stark.specs.declared.proof.StarkStatement.{StarkStatement}
use Rattle.circle_stark.specs.declared.trace.StarkTrace.{StarkTrace}

-- why the verifier refuses a proof
abbrev pub ProofError : Type 0
ProofError = StarkError VerifierError

pub record Preset : Type 1 where
  -- the proofs
  pub Proof : Type 0
  -- from the first challenger, which is left as the second, the verifier refuses the proof of the
  -- statement
  pub Refuses : Scheme → StarkStatement Mersenne31 → Proof → Sha256Challenger → Sha256Challenger →
      ProofError → Type 0
  -- or the prover the trace
  pub Unproved : Scheme → StarkTrace Mersenne31 → Sha256Challenger → Sha256Challenger →
      StarkProverError → Type 0
