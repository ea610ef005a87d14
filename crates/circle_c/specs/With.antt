-- What a command returns of inputs that have certain parameters.
use Rattle.std.specs.Prelude.{ℕ, List}
use Rattle.circle_json.specs.Form.{Form}
use Rattle.circle_commands.specs.Answer.{IsFailureOf}
use Rattle.circle_commands.specs.Commands.{verify_from}
use Rattle.circle_commands.specs.declared.failure.Failure.{Failure}
use Rattle.circle_commands.specs.declared.failure.Reason.{Reason}
use Rattle.circle_commands.specs.declared.failure.Reason.TheVariants.{Values, Prove, Verify, Shape}
use Rattle.circle_commands.specs.declared.failure.Reason.TheVariants.{ParametersDiffer}
use Rattle.circle_commands.specs.declared.verify.Input.{Input as Claims}
use Rattle.circle_c.specs.Challenger.{IsReasonFrom}
use Rattle.circle_c.specs.Params.{HasNumbers}
use Rattle.circle_c.specs.declared.params.CircleParams.{CircleParams}

module _ {Given : Type 0} (Has : Given → Type 0) where
  -- a result of an input that has the parameters
  abbrev pub IsResultWith : (Given → List ℕ → Type 0) → Given → List ℕ → Type 0
  IsResultWith IsResult input line = Has input × IsResult input line

  -- the parameters differ, or else there is this reason
  abbrev pub IsReasonWith : (Given → Reason → Type 0) → Given → Reason → Type 0
  IsReasonWith IsReason input (Values refusal) = Has input × IsReason input (Values refusal)
  IsReasonWith IsReason input (Prove refusal) = Has input × IsReason input (Prove refusal)
  IsReasonWith IsReason input (Verify refusal) = Has input × IsReason input (Verify refusal)
  IsReasonWith IsReason input (Shape refusal) = Has input × IsReason input (Shape refusal)
  IsReasonWith IsReason input ParametersDiffer = ¬ Has input

  -- memory was refused, or the text stands for no input, or for one that has other parameters
  abbrev pub IsNotReadWith : Form Given → List ℕ → Failure → Type 0
  IsNotReadWith form =
      IsFailureOf form (IsResultWith (λ input line. ⊥)) (IsReasonWith (λ input reason. ⊥))

-- of the command `verify` from a caller's challenger in the one state, which is left in the other
abbrev pub IsVerifiedWith : CircleParams → List ℕ → List ℕ → Claims → List ℕ → Type 0
IsVerifiedWith params old new =
    IsResultWith (HasNumbers params) (λ claims. verify_from.is_result_from claims old new)

abbrev pub IsUnverifiedWith : CircleParams → List ℕ → Claims → Reason → Type 0
IsUnverifiedWith params old =
    IsReasonWith (HasNumbers params) (IsReasonFrom verify_from.is_reason_from old)
