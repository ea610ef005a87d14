-- How proving and verifying in one call reports the refusals of both.
use Rattle.std.specs.Prelude.{Bool, true, false, if◌then◌else◌}
use Rattle.circle_stark.specs.declared.error.StarkError.{StarkError}
use Rattle.circle_stark.specs.declared.error.StarkError.TheVariants.{Memory as NoMemory}
use Rattle.circle_stark.specs.declared.error.StarkProverError.{StarkProverError}
use Rattle.circle_stark.specs.declared.error.StarkProverError.TheVariants.{Memory as NoRoom}
use Rattle.circle_stark.specs.declared.round_trip.StarkRoundTripError.{StarkRoundTripError}
use Rattle.circle_stark.specs.declared.round_trip.StarkRoundTripError.TheVariants.{Memory, Prove}
use Rattle.circle_stark.specs.declared.round_trip.StarkRoundTripError.TheVariants.{Verify}

-- whether the prover is out of memory, and how its refusal is returned
abbrev pub is_memory : StarkProverError → Bool
is_memory NoRoom = true
is_memory _ = false

abbrev pub unproved : {Error : Type 0} → StarkProverError → StarkRoundTripError Error
unproved error = if is_memory error then Memory else Prove error

-- how a refusal of the verifier is returned
abbrev pub unverified : {Error : Type 0} → StarkError Error → StarkRoundTripError Error
unverified NoMemory = Memory
unverified error = Verify error

-- where a refusal of the prover is returned, this holds of it
abbrev pub IsOfProver : {Error : Type 0} → (StarkProverError → Type 0) → StarkRoundTripError Error
    → Type 0
IsOfProver Unproved (Prove error) = Unproved error
IsOfProver Unproved _ = Unit {0}
