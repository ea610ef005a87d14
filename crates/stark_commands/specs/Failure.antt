-- The status and the line that report a failure, and which failure an error is.
use Rattle.std.specs.Prelude.{◌≡◌, ℕ, ◌++◌, List, codes}
use Rattle.std.specs.Fmt.{decimal}
use Rattle.circle_json.specs.declared.error.JsonError.{JsonError}
use Rattle.circle_commands.specs.Failure.{IsFailureOfJson as IsCommonOfJson, line_of, status_of}
use Rattle.circle_commands.specs.declared.failure.Failure.TheVariants as common
use Rattle.stark_commands.specs.Named.{check_name, prove_name, verify_name}
use Rattle.stark_commands.specs.declared.check.Refusal.{Refusal}
use Rattle.stark_commands.specs.declared.check.Refusal.TheVariants.{Unsatisfied}
use Rattle.stark_commands.specs.declared.prove.Refusal.{Refusal as Unproved}
use Rattle.stark_commands.specs.declared.prove.Refusal.TheVariants.{Prover}
use Rattle.circle_stark.specs.declared.error.StarkProverError.TheVariants.{Unsatisfied as BadTrace}
use Rattle.stark_commands.specs.declared.failure.Failure.{Failure}
use Rattle.stark_commands.specs.declared.failure.Failure.TheVariants.{Common, Refused}
use Rattle.stark_commands.specs.declared.failure.Reason.{Reason}
use Rattle.stark_commands.specs.declared.failure.Reason.TheVariants.{Check, Prove, Verify}

-- the text of an input that is refused
abbrev pub refused_text : List ℕ → List ℕ
refused_text name = codes "{\"refused\":\"" ++ name ++ codes "\"}"

-- that of a constraint that doesn't hold at a row
abbrev pub unsatisfied_text : ℕ → ℕ → List ℕ
unsatisfied_text constraint row =
    codes "{\"constraint\":" ++ decimal constraint
    ++ codes ",\"refused\":\"Unsatisfied\",\"row\":" ++ decimal row ++ codes "}"

-- the text of a refusal of the command `check`
abbrev pub check_text : Refusal → List ℕ
check_text (Unsatisfied violation) = unsatisfied_text violation.constraint violation.row
check_text refusal = refused_text (check_name refusal)

-- and of `prove`
abbrev pub prove_text : Unproved → List ℕ
prove_text (Prover (BadTrace row constraint)) = unsatisfied_text constraint row
prove_text refusal = refused_text (prove_name refusal)

abbrev pub reason_text : Reason → List ℕ
reason_text (Check refusal) = check_text refusal
reason_text (Prove refusal) = prove_text refusal
reason_text (Verify refusal) = refused_text (verify_name refusal)

-- the line that a refusal is written as
abbrev pub reason_line : Reason → List ℕ
reason_line reason = reason_text reason ++ codes "\n"

-- 2 where the input can't be read, 1 where it is refused
abbrev pub failure_status : Failure → ℕ
failure_status (Common failure) = status_of failure
failure_status (Refused reason) = 1

-- the line that a failure is written as
abbrev pub failure_line : Failure → List ℕ
failure_line (Common failure) = line_of failure
failure_line (Refused reason) = reason_line reason

-- what a failure to read an input of JSON is
abbrev pub IsFailureOfJson : JsonError → Failure → Type 0
IsFailureOfJson error (Common failure) = IsCommonOfJson error failure
IsFailureOfJson error (Refused reason) = ⊥

-- what a refusal is: that of memory, or one for its reason
abbrev pub IsFailureOfRefusal : {R : Type 0} → (R → Reason) → R → R → Failure → Type 0
IsFailureOfRefusal reason memory refusal (Common failure) =
    (failure ≡ common.Memory) × (refusal ≡ memory)
IsFailureOfRefusal reason memory refusal (Refused is) =
    (is ≡ reason refusal) × (¬ (refusal ≡ memory))

-- memory was refused, or there is this reason
abbrev pub IsRefusedFor : (Reason → Type 0) → Failure → Type 0
IsRefusedFor Is (Common failure) = failure ≡ common.Memory
IsRefusedFor Is (Refused reason) = Is reason
