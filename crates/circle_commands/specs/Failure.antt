-- The status and the line of a failure, and the failure that an error becomes.
use Rattle.std.specs.Prelude.{◌≡◌, ℕ, ◌++◌, List, codes}
use Rattle.std.specs.declared.io.ErrorKind.{ErrorKind}
use Rattle.std.specs.declared.io.ErrorKind.TheVariants.{OutOfMemory}
use Rattle.circle_json.specs.declared.error.JsonError.TheVariants as json
use Rattle.circle_json.specs.declared.error.JsonError.{JsonError}
use Rattle.serde_json.specs.Errors.{IsMemory}
use Rattle.serde_json.specs.declared.error.Error.{Error}
use Rattle.circle_json.specs.Named.{json_name}
use Rattle.circle_commands.specs.Named.{reason_name}
use Rattle.circle_commands.specs.declared.failure.Failure.{Failure}
use Rattle.circle_commands.specs.declared.failure.Failure.TheVariants.{Usage, Input, Json, Unfit}
use Rattle.circle_commands.specs.declared.failure.Failure.TheVariants.{Refused, Memory}
use Rattle.circle_commands.specs.declared.failure.Reason.{Reason}

-- 2 where the input can't be read, 1 where it is refused
abbrev pub status_of : Failure → ℕ
status_of Usage = 2
status_of Input = 2
status_of Json = 2
status_of (Unfit error) = 2
status_of (Refused reason) = 1
status_of Memory = 1

-- the lines of an input that can't be read, and of one that is refused
abbrev pub unreadable_line : List ℕ → List ℕ
unreadable_line name = codes "{\"unreadable\":\"" ++ name ++ codes "\"}\n"

abbrev pub refused_line : List ℕ → List ℕ
refused_line name = codes "{\"refused\":\"" ++ name ++ codes "\"}\n"

-- the line that a failure is written as
abbrev pub line_of : Failure → List ℕ
line_of Usage = unreadable_line (codes "usage")
line_of Input = unreadable_line (codes "input")
line_of Json = unreadable_line (codes "json")
line_of (Unfit error) = unreadable_line (json_name error)
line_of (Refused reason) = refused_line (reason_name reason)
line_of Memory = refused_line (codes "Memory")

-- what an error of the reader becomes
abbrev pub failure_of_reading : ErrorKind → Failure
failure_of_reading OutOfMemory = Memory
failure_of_reading _ = Input

-- what an error of the JSON parser becomes
pub record IsFailureOfText (error : Error) (failure : Failure) : Type 0 where
  pub memory : IsMemory error → failure ≡ Memory
  pub text : (¬ IsMemory error) → failure ≡ Json

-- what an error of reading an input from JSON becomes
pub record IsFailureOfJson (error : JsonError) (failure : Failure) : Type 0 where
  pub memory : error ≡ json.Memory → failure ≡ Memory
  pub unfit : (¬ (error ≡ json.Memory)) → failure ≡ Unfit error

-- what a refusal becomes: want of memory, or a refusal for its reason
abbrev pub IsFailureOfRefusal : {R : Type 0} → (R → Reason) → R → R → Failure → Type 0
IsFailureOfRefusal reason memory refusal Usage = ⊥
IsFailureOfRefusal reason memory refusal Input = ⊥
IsFailureOfRefusal reason memory refusal Json = ⊥
IsFailureOfRefusal reason memory refusal (Unfit error) = ⊥
IsFailureOfRefusal reason memory refusal (Refused is) =
    (is ≡ reason refusal) × (¬ (refusal ≡ memory))
IsFailureOfRefusal reason memory refusal Memory = refusal ≡ memory

-- memory was refused, or there is this reason
abbrev pub IsRefusedFor : (Reason → Type 0) → Failure → Type 0
IsRefusedFor Is Usage = ⊥
IsRefusedFor Is Input = ⊥
IsRefusedFor Is Json = ⊥
IsRefusedFor Is (Unfit error) = ⊥
IsRefusedFor Is (Refused reason) = Is reason
IsRefusedFor Is Memory = Unit {0}
