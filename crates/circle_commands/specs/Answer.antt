-- What a command returns of a text: the line of a result, or why there is none.
use Rattle.std.specs.Prelude.{ℕ, List, MatchResult, Result, String, string_bytes}
use Rattle.std.specs.declared.alloc.Global.{Global}
use Rattle.circle_json.specs.Form.{Form}
use Rattle.circle_commands.specs.Text.{IsNoJson, IsUnfit, StandsFor}
use Rattle.circle_commands.specs.declared.failure.Failure.{Failure}
use Rattle.circle_commands.specs.declared.failure.Failure.TheVariants.{Usage, Input, Json, Unfit}
use Rattle.circle_commands.specs.declared.failure.Failure.TheVariants.{Refused, Memory}
use Rattle.circle_commands.specs.declared.failure.Reason.{Reason}

-- memory was refused, or the text is no JSON
abbrev pub IsNotText : List ℕ → Failure → Type 0
IsNotText text Usage = ⊥
IsNotText text Input = ⊥
IsNotText text Json = IsNoJson text
IsNotText text (Unfit error) = ⊥
IsNotText text (Refused reason) = ⊥
IsNotText text Memory = Unit {0}

-- of a command whose inputs have this form
module _ {Given : Type 0} (form : Form Given) where
  -- memory was refused, or the text stands for no input
  abbrev pub IsNotRead : List ℕ → Failure → Type 0
  IsNotRead text Usage = ⊥
  IsNotRead text Input = ⊥
  IsNotRead text Json = IsNoJson text
  IsNotRead text (Unfit error) = IsUnfit form text error
  IsNotRead text (Refused reason) = ⊥
  IsNotRead text Memory = Unit {0}

  -- whose results are such lines of an input, and which refuses an input for such reasons
  module _ (IsResult : Given → List ℕ → Type 0) (IsReason : Given → Reason → Type 0) where
    -- memory was refused, or the text stands for no input, or for one that is refused
    abbrev pub IsFailureOf : List ℕ → Failure → Type 0
    IsFailureOf text Usage = ⊥
    IsFailureOf text Input = ⊥
    IsFailureOf text Json = IsNoJson text
    IsFailureOf text (Unfit error) = IsUnfit form text error
    IsFailureOf text (Refused reason) = StandsFor form (λ input. IsReason input reason) text
    IsFailureOf text Memory = Unit {0}

    -- the text stands for an input of which the line is a result, or there is no result
    abbrev pub IsAnswer : List ℕ → Result (String Global) Failure → Type 0
    IsAnswer text answer = MatchResult answer
        (λ line. StandsFor form (λ input. IsResult input (string_bytes line)) text)
        (IsFailureOf text)
