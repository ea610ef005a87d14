-- What a command answers of a text: the line of a result, or why there is none.
use Rattle.std.specs.Prelude.{ℕ, List, MatchResult, Result, String, string_bytes}
use Rattle.std.specs.declared.alloc.Global.{Global}
use Rattle.circle_json.specs.Form.{Form}
use Rattle.circle_commands.specs.Answer.{IsNotRead as IsCommon}
use Rattle.circle_commands.specs.Text.{StandsFor}
use Rattle.stark_commands.specs.declared.failure.Failure.{Failure}
use Rattle.stark_commands.specs.declared.failure.Failure.TheVariants.{Common, Refused}
use Rattle.stark_commands.specs.declared.failure.Reason.{Reason}

-- of a command whose inputs have this form
module _ {Given : Type 0} (form : Form Given) where
  -- memory was refused, or the text stands for no input
  abbrev pub IsNotRead : List ℕ → Failure → Type 0
  IsNotRead text (Common failure) = IsCommon form text failure
  IsNotRead text (Refused reason) = ⊥

  -- whose results are such lines of an input, and which refuses an input for such reasons
  module _ (IsResult : Given → List ℕ → Type 0) (IsReason : Given → Reason → Type 0) where
    -- memory was refused, or the text stands for no input, or for one that is refused
    abbrev pub IsFailureOf : List ℕ → Failure → Type 0
    IsFailureOf text (Common failure) = IsCommon form text failure
    IsFailureOf text (Refused reason) = StandsFor form (λ input. IsReason input reason) text

    -- the text stands for an input of which the line is a result, or there is no result
    abbrev pub IsAnswer : List ℕ → Result (String Global) Failure → Type 0
    IsAnswer text answer = MatchResult answer
        (λ line. StandsFor form (λ input. IsResult input (string_bytes line)) text)
        (IsFailureOf text)
