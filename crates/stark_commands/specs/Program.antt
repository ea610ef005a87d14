-- What a run of the program reads, writes and reports by its status.
use Rattle.std.specs.Prelude.{ℕ, ◌⊎◌, List, Option, Result, Ok, Err}
use Rattle.std.specs.Prelude.{String, string_bytes}
use Rattle.std.specs.Io.KnownBytes.{Consumes, IsAtEnd}
use Rattle.std.specs.declared.alloc.Global.{Global}
use Rattle.circle_commands.specs.Program.{IsUnread as IsCommonUnread, IsWritten}
use Rattle.stark_commands.specs.Failure.{failure_line, failure_status}
use Rattle.stark_commands.specs.declared.failure.Failure.{Failure}
use Rattle.stark_commands.specs.declared.failure.Failure.TheVariants.{Common, Refused}

-- a line, or why there is none
abbrev pub Answer : Type 0
Answer = Result (String Global) Failure

-- the status and the line that report an answer
abbrev pub answer_status : Answer → ℕ
answer_status (Ok line) = 0
answer_status (Err failure) = failure_status failure

abbrev pub answer_line : Answer → List ℕ
answer_line (Ok line) = string_bytes line
answer_line (Err failure) = failure_line failure

-- the answer was written with its status, or writing failed and the status is 1
abbrev pub IsTold : Answer → Option (List ℕ) → Option (List ℕ) → ℕ → Type 0
IsTold answer = IsWritten (answer_status answer) (answer_line answer)

-- reading failed, or memory was refused
abbrev pub IsUnread : Answer → Type 0
IsUnread (Ok line) = ⊥
IsUnread (Err (Common failure)) = IsCommonUnread (Err failure)
IsUnread (Err (Refused reason)) = ⊥

module _ (Answers : List ℕ → Answer → Type 0) where
  -- a text was read to the end of the input and this is the answer of it, unless reading failed
  pub record IsOfInput (old new : Option (List ℕ)) (answer : Answer) : Type 0 where
    pub text : List ℕ
    pub read : Consumes old new text
    pub told : IsUnread answer ⊎ (IsAtEnd new × Answers text answer)

  -- the input was read so, and the answer was told
  pub record HasRun (input_old input_new output_old output_new : Option (List ℕ)) (status : ℕ)
      : Type 0 where
    pub answer : Answer
    pub of_input : IsOfInput input_old input_new answer
    pub told : IsTold answer output_old output_new status
