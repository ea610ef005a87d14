-- The reasons for which each command refuses an input.
use Rattle.std.specs.Prelude.{◌≡◌, ℕ, List, Some}
use Rattle.circle_air.specs.Parts.{parts_of}
use Rattle.circle_air.specs.Refusal.{refusal}
use Rattle.circle_stark.specs.declared.error.StarkError.TheVariants.{Memory as OutOfMemory}
use Rattle.stark_commands.specs.Check.{IsUnsatisfied}
use Rattle.stark_commands.specs.Preset.{ProofError}
use Rattle.stark_commands.specs.Proved.{IsUnproved, IsUnprovedFrom}
use Rattle.stark_commands.specs.Verified.{HasAir, IsAcceptedFrom, IsUnverified, IsUnverifiedFrom}
use Rattle.stark_commands.specs.Verified.{IsVerified}
use Rattle.stark_commands.specs.declared.check.Input.{Input}
use Rattle.stark_commands.specs.declared.failure.Reason.{Reason}
use Rattle.stark_commands.specs.declared.failure.Reason.TheVariants.{Check, Prove, Verify}
use Rattle.stark_commands.specs.declared.prove.Input.{Input as Statement}
use Rattle.stark_commands.specs.declared.prove.Refusal.{Refusal as Unproved}
use Rattle.stark_commands.specs.declared.verify.Input.{Input as Claim}
use Rattle.stark_commands.specs.declared.verify.Refusal.{Refusal}
use Rattle.stark_commands.specs.declared.verify.Refusal.TheVariants.{Air, Proof, Memory}

-- `check` refuses an input for this reason
abbrev pub IsCheckReason : Input → Reason → Type 0
IsCheckReason input (Check refusal) = IsUnsatisfied input refusal
IsCheckReason input (Prove refusal) = ⊥
IsCheckReason input (Verify refusal) = ⊥

-- it is a refusal of `prove` that is so
abbrev pub IsOfProve : (Unproved → Type 0) → Reason → Type 0
IsOfProve Is (Check refusal) = ⊥
IsOfProve Is (Prove refusal) = Is refusal
IsOfProve Is (Verify refusal) = ⊥

-- and of `verify`
abbrev pub IsOfVerify : (Refusal → Type 0) → Reason → Type 0
IsOfVerify Is (Check refusal) = ⊥
IsOfVerify Is (Prove refusal) = ⊥
IsOfVerify Is (Verify refusal) = Is refusal

-- `prove` refuses an input for this reason
abbrev pub IsProveReason : Statement → Reason → Type 0
IsProveReason input = IsOfProve (IsUnproved input)

-- from a challenger in the one state, which is left in the other
abbrev pub IsProveReasonFrom : Statement → List ℕ → List ℕ → Reason → Type 0
IsProveReasonFrom input old new = IsOfProve (IsUnprovedFrom input old new)

-- the parts make no AIR, or the proof isn't accepted and the verifier refuses it by such an error,
-- which isn't want of memory
abbrev pub IsUnverifiedBy : Type 0 → (ProofError → Type 0) → Claim → Refusal → Type 0
IsUnverifiedBy Accepted Refuses input (Air error) = refusal (parts_of input.air) ≡ Some error
IsUnverifiedBy Accepted Refuses input (Proof error) =
    HasAir input × ((¬ Accepted) × ((¬ (error ≡ OutOfMemory)) × Refuses error))
IsUnverifiedBy Accepted Refuses input Memory = ⊥

-- from a challenger in the one state, which is left in the other
abbrev pub IsVerifyRefusalFrom : Claim → List ℕ → List ℕ → Refusal → Type 0
IsVerifyRefusalFrom input old new =
    IsUnverifiedBy (IsAcceptedFrom input old) (IsUnverifiedFrom input old new) input

abbrev pub IsVerifyReasonFrom : Claim → List ℕ → List ℕ → Reason → Type 0
IsVerifyReasonFrom input old new = IsOfVerify (IsVerifyRefusalFrom input old new)

-- and from a challenger that has absorbed nothing
abbrev pub IsVerifyRefusal : Claim → Refusal → Type 0
IsVerifyRefusal input = IsUnverifiedBy (IsVerified input) (IsUnverified input) input

abbrev pub IsVerifyReason : Claim → Reason → Type 0
IsVerifyReason input = IsOfVerify (IsVerifyRefusal input)
