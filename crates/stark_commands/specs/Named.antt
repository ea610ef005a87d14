-- The names of refusals, letter by letter.
use Rattle.std.specs.Prelude.{ℕ, List, codes}
use Rattle.circle_air.specs.declared.error.AirError.{AirError}
use Rattle.circle_air.specs.declared.error.AirError.TheVariants as air
use Rattle.circle_commit.specs.Named.{fri_name}
use Rattle.circle_commit.specs.declared.error.FriError.{FriError}
use Rattle.circle_relation.specs.Named.{input_name}
use Rattle.circle_relation.specs.declared.error.InputError.{InputError}
use Rattle.circle_stark.specs.declared.error.StarkError.{StarkError}
use Rattle.circle_stark.specs.declared.error.StarkProverError.{StarkProverError}
use Rattle.circle_stark.specs.declared.error.StarkProverError.TheVariants as prover
use Rattle.circle_stark.specs.declared.error.StarkError.TheVariants as stark
use Rattle.stark_commands.specs.declared.check.Refusal.{Refusal as Unchecked}
use Rattle.stark_commands.specs.declared.check.Refusal.TheVariants as check
use Rattle.stark_commands.specs.declared.prove.Refusal.{Refusal as Unproved}
use Rattle.stark_commands.specs.declared.prove.Refusal.TheVariants as prove
use Rattle.stark_commands.specs.declared.verify.Refusal.{Refusal as Unverified}
use Rattle.stark_commands.specs.declared.verify.Refusal.TheVariants as verify

-- the name of the reason to refuse an AIR
abbrev pub air_name : AirError → List ℕ
air_name air.NoColumns = codes "NoColumns"
air_name (air.PeriodicLength column) = codes "PeriodicLength"
air_name (air.NodeOutOfOrder node) = codes "NodeOutOfOrder"
air_name (air.ColumnOutOfRange node) = codes "ColumnOutOfRange"
air_name (air.PeriodicOutOfRange node) = codes "PeriodicOutOfRange"
air_name (air.PublicOutOfRange node) = codes "PublicOutOfRange"
air_name (air.DegreeTooHigh node) = codes "DegreeTooHigh"
air_name air.NoConstraints = codes "NoConstraints"
air_name (air.ConstraintOutOfRange constraint) = codes "ConstraintOutOfRange"
air_name air.Memory = codes "Memory"

-- that of the reason to refuse a proof, and the scheme's own name where the scheme refuses it
abbrev pub stark_name : {W I : Type 0} → StarkError (FriError W (InputError I W)) → List ℕ
stark_name (stark.PublicValuesMismatch _ _) = codes "PublicValuesMismatch"
stark_name stark.HeightTooSmall = codes "HeightTooSmall"
stark_name stark.HeightTooLarge = codes "HeightTooLarge"
stark_name (stark.PeriodTooLong _) = codes "PeriodTooLong"
stark_name (stark.TraceLocalLength _ _) = codes "TraceLocalLength"
stark_name (stark.TraceNextLength _ _) = codes "TraceNextLength"
stark_name (stark.QuotientChunkCount _ _) = codes "QuotientChunkCount"
stark_name (stark.QuotientChunkLength _ _ _) = codes "QuotientChunkLength"
stark_name stark.UnfitPoint = codes "UnfitPoint"
stark_name (stark.InvalidOpening error) = fri_name input_name error
stark_name stark.OodEvaluationMismatch = codes "OodEvaluationMismatch"
stark_name stark.Memory = codes "Memory"

-- that of the reason to make no proof
abbrev pub prover_name : StarkProverError → List ℕ
prover_name (prover.PublicValuesMismatch _ _) = codes "PublicValuesMismatch"
prover_name (prover.WidthMismatch _ _) = codes "WidthMismatch"
prover_name prover.HeightNotPowerOfTwo = codes "HeightNotPowerOfTwo"
prover_name prover.HeightTooSmall = codes "HeightTooSmall"
prover_name prover.HeightTooLarge = codes "HeightTooLarge"
prover_name (prover.PeriodTooLong _) = codes "PeriodTooLong"
prover_name prover.UnfitParameters = codes "UnfitParameters"
prover_name (prover.Unsatisfied _ _) = codes "Unsatisfied"
prover_name prover.UnfitPoint = codes "UnfitPoint"
prover_name prover.PointOnDomain = codes "PointOnDomain"
prover_name (prover.NoGrindingWitness _) = codes "NoGrindingWitness"
prover_name prover.Memory = codes "Memory"

-- of a refusal of the command `check`
abbrev pub check_name : Unchecked → List ℕ
check_name (check.Air error) = air_name error
check_name check.RaggedRows = codes "RaggedRows"
check_name check.HeightNotPowerOfTwo = codes "HeightNotPowerOfTwo"
check_name check.PublicValuesMismatch = codes "PublicValuesMismatch"
check_name check.WidthMismatch = codes "WidthMismatch"
check_name check.PeriodTooLong = codes "PeriodTooLong"
check_name (check.Unsatisfied violation) = codes "Unsatisfied"
check_name check.Memory = codes "Memory"

-- of `verify`
abbrev pub verify_name : Unverified → List ℕ
verify_name (verify.Air error) = air_name error
verify_name (verify.Proof error) = stark_name error
verify_name verify.Memory = codes "Memory"

-- of `prove`
abbrev pub prove_name : Unproved → List ℕ
prove_name (prove.Air error) = air_name error
prove_name prove.RaggedRows = codes "RaggedRows"
prove_name prove.HeightNotPowerOfTwo = codes "HeightNotPowerOfTwo"
prove_name prove.HeightTooLarge = codes "HeightTooLarge"
prove_name (prove.Prover error) = prover_name error
prove_name prove.Memory = codes "Memory"
