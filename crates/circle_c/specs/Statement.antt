-- A verifier's own statement and a proof, each in a text of its own, and what a call writes of
-- them.
use Rattle.std.specs.Prelude.{ℕ, ◌⊎◌, ◌++◌, List, codes}
use Rattle.circle_json.specs.Claims.{parameters_form}
use Rattle.circle_json.specs.Form.{Form, count_form}
use Rattle.circle_json.specs.Named.{json_name}
use Rattle.circle_json.specs.ObjectForm.{object_form}
use Rattle.circle_json.specs.Objects.{Fields, field, none_left}
use Rattle.circle_commands.specs.Answer.{IsNotRead}
use Rattle.circle_commands.specs.Failure.{line_of}
use Rattle.circle_commands.specs.Forms.{row_form}
use Rattle.circle_commands.specs.Text.{IsTextOf}
use Rattle.circle_commands.specs.declared.failure.Failure.{Failure}
use Rattle.circle_commands.specs.declared.failure.Failure.TheVariants.{Json, Unfit}
use Rattle.stark_commands.specs.Failure.{reason_line}
use Rattle.stark_commands.specs.Forms.{air_form, proof_form}
use Rattle.stark_commands.specs.declared.failure.Reason.{Reason}
use Rattle.stark_commands.specs.declared.verify.Input.{Input}
use Rattle.circle_c.specs.Line.{WritesLine, WritesReason, WritesUnread}
use Rattle.circle_c.specs.declared.statement.Statement.{Statement}
use Rattle.circle_c.specs.declared.unread.Unread.{Unread}
use Rattle.circle_c.specs.declared.unread.Unread.TheVariants.{OfStatement, OfProof}

-- the AIR, the logarithm of the number of rows, the parameters and the public values
abbrev pub statement_fields : Fields Statement
statement_fields =
    field (codes "air") (λ s. s.air) air_form
    (field (codes "log_n") (λ s. s.log_n) count_form
    (field (codes "params") (λ s. s.params) parameters_form
    (field (codes "public_values") (λ s. s.public_values) row_form
    none_left)))

abbrev pub statement_form : Form Statement
statement_form = object_form statement_fields

-- an input of the command `verify` without its proof
abbrev pub statement_of : Input → Statement
statement_of input = record {
  air = input.air;
  log_n = input.log_n;
  params = input.params;
  public_values = input.public_values;
}

-- the line of the text of this name, by that of the reason why it can't be read
abbrev pub unread_line : List ℕ → List ℕ → List ℕ
unread_line text name =
    codes "{\"text\":\"" ++ text ++ codes "\",\"unreadable\":\"" ++ name ++ codes "\"}\n"

-- the line of a failure to read the text of this name
abbrev pub failure_line : List ℕ → Failure → List ℕ
failure_line text Json = unread_line text (codes "json")
failure_line text (Unfit error) = unread_line text (json_name error)
failure_line text failure = line_of failure

-- the name of a text that can't be read, and the failure to read it
abbrev pub name_of : Unread → List ℕ
name_of (OfStatement failure) = codes "statement"
name_of (OfProof failure) = codes "proof"

abbrev pub failure_of : Unread → Failure
failure_of (OfStatement failure) = failure
failure_of (OfProof failure) = failure

-- of a text of a statement and one of a proof
module _ (statement proof : List ℕ) where
  -- they stand for the input's statement and for its proof
  pub record AreTextsOf (input : Input) : Type 0 where
    pub stated : IsTextOf statement_form statement (statement_of input)
    pub proved : IsTextOf proof_form proof input.proof

  -- the one stands for a statement
  abbrev pub IsStated : Type 0
  IsStated = (stated : Statement) × IsTextOf statement_form statement stated

  -- the text of the statement isn't read, or it stands for one and that of the proof isn't read
  abbrev pub IsUnread : Unread → Type 0
  IsUnread (OfStatement failure) = IsNotRead statement_form statement failure
  IsUnread (OfProof failure) = IsStated × IsNotRead proof_form proof failure

  -- they stand for an input that is so
  abbrev pub StandFor : (Input → Type 0) → Type 0
  StandFor Is = (input : Input) × (AreTextsOf input × Is input)

  module _ (old new : List ℕ) (needed : ℕ) where
    -- a line was written that is a result of the input that the texts stand for
    abbrev pub WritesVerdict : (Input → List ℕ → Type 0) → Type 0
    WritesVerdict IsResult =
        WritesLine (λ line. StandFor (λ input. IsResult input line)) old new needed

    -- the line of memory was written, or that of a reason to refuse the input that they stand for
    abbrev pub WritesRefusalOf : (Input → Reason → Type 0) → Type 0
    WritesRefusalOf IsReason =
        WritesReason reason_line (λ reason. StandFor (λ input. IsReason input reason)) old new
        needed

    -- the line of one of the two was written, which is no JSON or stands for nothing; that of the
    -- proof only where the other stands for a statement
    abbrev pub WritesUnreadText : Type 0
    WritesUnreadText =
        WritesUnread statement_form statement old new needed (unread_line (codes "statement"))
        ⊎ (IsStated × WritesUnread proof_form proof old new needed (unread_line (codes "proof")))
