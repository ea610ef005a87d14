-- The names of refusals, letter by letter.
use Rattle.std.specs.Prelude.{ℕ, List, codes}
use Rattle.circle_relation.specs.declared.error.InputError.{InputError}
use Rattle.circle_relation.specs.declared.error.InputError.TheVariants as error
use Rattle.circle_relation.specs.declared.error.ProverError.{ProverError}
use Rattle.circle_relation.specs.declared.error.ProverError.TheVariants as prover

-- the name of a variant
abbrev pub input_name : {I W : Type 0} → InputError I W → List ℕ
input_name (error.InputMmcsError _) = codes "InputMmcsError"
input_name (error.FirstLayerMmcsError _) = codes "FirstLayerMmcsError"
input_name error.InputShapeError = codes "InputShapeError"
input_name error.OpeningPointMatchesQueryPoint = codes "OpeningPointMatchesQueryPoint"
input_name (error.MatrixWithoutOpeningPoints _ _) = codes "MatrixWithoutOpeningPoints"
input_name (error.DomainTooSmall _) = codes "DomainTooSmall"

-- that of a prover's refusal
abbrev pub prover_name : ProverError → List ℕ
prover_name prover.Memory = codes "Memory"
prover_name (prover.NoGrindingWitness _) = codes "NoGrindingWitness"
prover_name prover.UnfitParameters = codes "UnfitParameters"
prover_name prover.HeightTooLarge = codes "HeightTooLarge"
prover_name prover.HeightTooSmall = codes "HeightTooSmall"
prover_name prover.NotGenuine = codes "NotGenuine"
prover_name prover.MatrixCountMismatch = codes "MatrixCountMismatch"
prover_name prover.NoCommittedMatrices = codes "NoCommittedMatrices"
prover_name prover.PointAtInfinity = codes "PointAtInfinity"
prover_name prover.PointOnDomain = codes "PointOnDomain"
prover_name prover.LastWordNotConstant = codes "LastWordNotConstant"
prover_name prover.DomainSmallerThanTrace = codes "DomainSmallerThanTrace"
