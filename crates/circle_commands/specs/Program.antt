-- What a run of the program reads and writes, and the status that it returns.
use Rattle.std.specs.Prelude.{◌≡◌, ℕ, ◌⊎◌, List, take, Option, Result, Ok, Err, String}
use Rattle.std.specs.Prelude.{string_bytes}
use Rattle.std.specs.Io.KnownBytes.{Appends, Consumes, IsAtEnd}
use Rattle.std.specs.declared.alloc.Global.{Global}
use Rattle.circle_commands.specs.Failure.{line_of, status_of}
use Rattle.circle_commands.specs.declared.failure.Failure.{Failure}
use Rattle.circle_commands.specs.declared.failure.Failure.TheVariants.{Usage, Input, Json, Unfit}
use Rattle.circle_commands.specs.declared.failure.Failure.TheVariants.{Refused, Memory}

-- a line, or why there is none
abbrev pub Answer : Type 0
Answer = Result (String Global) Failure

-- the status and the line of an answer
abbrev pub answer_status : Answer → ℕ
answer_status (Ok line) = 0
answer_status (Err failure) = status_of failure

abbrev pub answer_line : Answer → List ℕ
answer_line (Ok line) = string_bytes line
answer_line (Err failure) = line_of failure

-- a front of the line was written, which may be empty or whole
abbrev pub AppendsFront : Option (List ℕ) → Option (List ℕ) → List ℕ → Type 0
AppendsFront old new line = (n : ℕ) × Appends old new (take n line)

-- the whole line was written and this status is returned, or writing failed: then a front of the
-- line was written and the status is 1
abbrev pub IsWritten : ℕ → List ℕ → Option (List ℕ) → Option (List ℕ) → ℕ → Type 0
IsWritten due line old new status =
    ((status ≡ due) × Appends old new line) ⊎ ((status ≡ 1) × AppendsFront old new line)

-- so of the line and the status of an answer
abbrev pub IsTold : Answer → Option (List ℕ) → Option (List ℕ) → ℕ → Type 0
IsTold answer = IsWritten (answer_status answer) (answer_line answer)

-- reading failed, or memory was refused; no contract says why, since those of readers and of
-- allocations don't say when they fail
abbrev pub IsUnread : Answer → Type 0
IsUnread (Ok line) = ⊥
IsUnread (Err Usage) = ⊥
IsUnread (Err Input) = Unit {0}
IsUnread (Err Json) = ⊥
IsUnread (Err (Unfit error)) = ⊥
IsUnread (Err (Refused reason)) = ⊥
IsUnread (Err Memory) = Unit {0}

module _ (Answers : List ℕ → Answer → Type 0) where
  -- the input was read to its end and this is the answer to its text, unless reading failed or
  -- memory was refused
  pub record IsOfInput (old new : Option (List ℕ)) (answer : Answer) : Type 0 where
    pub text : List ℕ
    pub read : Consumes old new text
    pub told : IsUnread answer ⊎ (IsAtEnd new × Answers text answer)

  -- the input was read so, and the line of the answer was written
  pub record HasRun (input_old input_new output_old output_new : Option (List ℕ)) (status : ℕ)
      : Type 0 where
    pub answer : Answer
    pub of_input : IsOfInput input_old input_new answer
    pub told : IsTold answer output_old output_new status
