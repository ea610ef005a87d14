-- The reasons for which each command refuses an input.
use Rattle.std.specs.Prelude.{◌≡◌, ℕ, ◌<◌, ◌≤◌, ◌⊎◌, List}
use Rattle.circle_relation.specs.declared.error.ProverError.TheVariants.{Memory}
use Rattle.circle_commands.specs.Input.{HasFittingHeight, HasFittingSize, HasPoint, HasRectangle}
use Rattle.circle_commands.specs.Preset.{VerifierError}
use Rattle.circle_commands.specs.Shape.{HasRoom}
use Rattle.circle_commands.specs.Traces.{IsRefusalOfBatches}
use Rattle.circle_commands.specs.Unproved.{IsOfScheme, IsUncommittable, IsUnproved, IsUnprovedFrom}
use Rattle.circle_commands.specs.Verified.{IsUnverified, IsUnverifiedFrom, IsVerified}
use Rattle.circle_commands.specs.Verified.{IsVerifiedFrom}
use Rattle.circle_commands.specs.declared.failure.Reason.{Reason}
use Rattle.circle_commands.specs.declared.failure.Reason.TheVariants as reason
use Rattle.circle_commands.specs.declared.prove.Input.{Input as Statement}
use Rattle.circle_commands.specs.declared.prove.Refusal.{Refusal}
use Rattle.circle_commands.specs.declared.prove.Refusal.TheVariants.{Prover}
use Rattle.circle_commands.specs.declared.shape.Input.{Input as Claimed}
use Rattle.circle_commands.specs.declared.shape.Refusal.{Refusal as Shapeless}
use Rattle.circle_commands.specs.declared.shape.Refusal.TheVariants.{HeightTooSmall, HeightTooLarge}
use Rattle.circle_commands.specs.declared.values.Input.{Input}
use Rattle.circle_commands.specs.declared.values.Refusal.{Refusal as Valueless}
use Rattle.circle_commands.specs.declared.values.Refusal.TheVariants as values
use Rattle.circle_commands.specs.declared.verify.Input.{Input as Claims}

-- of an input of `values`, each where no earlier one holds
abbrev pub IsValueless : Input → Valueless → Type 0
IsValueless input values.DomainTooSmall = input.log_n ≡ 0
IsValueless input values.DomainTooLarge = 24 < input.log_n
IsValueless input values.NotOnCircle = HasFittingSize input × (¬ HasPoint input)
IsValueless input values.RaggedRows =
    HasFittingSize input × HasPoint input × (¬ HasRectangle input)
IsValueless input values.BadHeight =
    HasFittingSize input × HasPoint input × HasRectangle input × (¬ HasFittingHeight input)
IsValueless input values.Memory = ⊥

-- of an input of `shape`
abbrev pub IsShapeless : Claimed → Shapeless → Type 0
IsShapeless input HeightTooSmall = ¬ HasRoom input
IsShapeless input HeightTooLarge = HasRoom input × (31 ≤ input.log_max_height)

-- the command `values` refuses by a reason of its own, and so does each of the others
abbrev pub IsValuesReason : Input → Reason → Type 0
IsValuesReason input (reason.Values refusal) = IsValueless input refusal
IsValuesReason input (reason.Prove refusal) = ⊥
IsValuesReason input (reason.Verify refusal) = ⊥
IsValuesReason input (reason.Shape refusal) = ⊥
IsValuesReason input reason.ParametersDiffer = ⊥

abbrev pub IsShapeReason : Claimed → Reason → Type 0
IsShapeReason input (reason.Values refusal) = ⊥
IsShapeReason input (reason.Prove refusal) = ⊥
IsShapeReason input (reason.Verify refusal) = ⊥
IsShapeReason input (reason.Shape refusal) = IsShapeless input refusal
IsShapeReason input reason.ParametersDiffer = ⊥

-- it is a refusal of `prove` that is so
abbrev pub IsOfProve : (Refusal → Type 0) → Reason → Type 0
IsOfProve Is (reason.Values refusal) = ⊥
IsOfProve Is (reason.Prove refusal) = Is refusal
IsOfProve Is (reason.Verify refusal) = ⊥
IsOfProve Is (reason.Shape refusal) = ⊥
IsOfProve Is reason.ParametersDiffer = ⊥

-- memory was refused, or there is such a reason
abbrev pub IsProverRefusal : (Reason → Type 0) → Refusal → Type 0
IsProverRefusal Is refusal = (refusal ≡ Prover Memory) ⊎ Is (reason.Prove refusal)

-- it is a refusal of `verify` that is so
abbrev pub IsOfVerify : (VerifierError → Type 0) → Reason → Type 0
IsOfVerify Is (reason.Values refusal) = ⊥
IsOfVerify Is (reason.Prove refusal) = ⊥
IsOfVerify Is (reason.Verify error) = Is error
IsOfVerify Is (reason.Shape refusal) = ⊥
IsOfVerify Is reason.ParametersDiffer = ⊥

-- the claims aren't verified, and the scheme refuses them and their proof for this reason
abbrev pub IsVerifyReason : Claims → Reason → Type 0
IsVerifyReason input =
    IsOfVerify (λ error. (¬ IsVerified input) × IsUnverified input error)

-- so from a challenger in the one state, which is left in the other
abbrev pub IsVerifyReasonFrom : Claims → List ℕ → List ℕ → Reason → Type 0
IsVerifyReasonFrom input old new =
    IsOfVerify (λ error. (¬ ((left : List ℕ) × IsVerifiedFrom input old left))
    × IsUnverifiedFrom input old new error)

-- the rows don't fit, or the scheme refuses to commit
abbrev pub IsCommitReason : Statement → Reason → Type 0
IsCommitReason input =
    IsOfProve (λ refusal. IsRefusalOfBatches input.params.log_final_poly_len input.batches.items
    refusal ⊎ IsOfScheme (IsUncommittable input) refusal)

-- the rows don't fit, or the scheme refuses to commit or to open
abbrev pub IsProveReason : Statement → Reason → Type 0
IsProveReason input =
    IsOfProve (λ refusal. IsRefusalOfBatches input.params.log_final_poly_len input.batches.items
    refusal ⊎ IsUnproved input refusal)

-- so from a challenger in the one state, which rows that don't fit leave as it was
abbrev pub IsProveReasonFrom : Statement → List ℕ → List ℕ → Reason → Type 0
IsProveReasonFrom input old new =
    IsOfProve (λ refusal. (IsRefusalOfBatches input.params.log_final_poly_len input.batches.items
    refusal × (new ≡ old)) ⊎ IsUnprovedFrom input old new refusal)

-- memory was refused, or there is a reason
abbrev pub IsProveRefusal : Statement → Refusal → Type 0
IsProveRefusal input = IsProverRefusal (IsProveReason input)
