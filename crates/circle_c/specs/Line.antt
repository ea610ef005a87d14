-- What a call writes to its caller's places.
use Rattle.std.specs.Prelude.{◌≡◌, ℕ, ◌<◌, ◌≤◌, ◌⊎◌, ◌++◌, List, length, drop, codes}
use Rattle.circle_json.specs.Form.{Form}
use Rattle.circle_json.specs.Named.{json_name}
use Rattle.circle_json.specs.declared.error.JsonError.{JsonError}
use Rattle.circle_commands.specs.Failure.{refused_line, unreadable_line}
use Rattle.circle_commands.specs.Named.{reason_name}
use Rattle.circle_commands.specs.Text.{IsNoJson, IsUnfit, StandsFor}
use Rattle.circle_commands.specs.declared.failure.Reason.{Reason}
use Rattle.stark_commands.specs.Failure.{reason_line}
use Rattle.stark_commands.specs.declared.failure.Reason.{Reason as StarkReason}
use Rattle.circle_c.specs.Challenger.{IsResultFrom}

-- the text stands at the start of the line where it fits, else the line is as it was; its length is
-- reported
pub record IsWritten (text old new : List ℕ) (needed : ℕ) : Type 0 where
  pub reported : needed ≡ length text
  pub fits : length text ≤ length old → new ≡ text ++ drop (length text) old
  pub kept : length old < length text → new ≡ old

-- a line that is so was written
abbrev pub WritesLine : (List ℕ → Type 0) → List ℕ → List ℕ → ℕ → Type 0
WritesLine Is old new needed = (line : List ℕ) × (Is line × IsWritten line old new needed)

-- the line of memory was written, or that of a reason that is so
abbrev pub WritesReason : {R : Type 0} → (R → List ℕ) → (R → Type 0) → List ℕ → List ℕ → ℕ →
    Type 0
WritesReason {R} line_of Is old new needed =
    IsWritten (refused_line (codes "Memory")) old new needed
    ⊎ ((reason : R) × (Is reason × IsWritten (line_of reason) old new needed))

module _ {Given : Type 0} (form : Form Given) (text old new : List ℕ) (needed : ℕ) where
  -- a line was written that is a result of the input that the text stands for
  abbrev pub WritesResult : (Given → List ℕ → Type 0) → Type 0
  WritesResult IsResult =
      WritesLine (λ line. StandsFor form (λ input. IsResult input line) text) old new needed

  -- the line of memory was written, or that of a reason to refuse the input that the text stands
  -- for
  abbrev pub WritesRefusal : (Given → Reason → Type 0) → Type 0
  WritesRefusal IsReason =
      WritesReason (λ reason. refused_line (reason_name reason))
      (λ reason. StandsFor form (λ input. IsReason input reason) text) old new needed

  -- so of a command over constraints
  abbrev pub WritesStarkRefusal : (Given → StarkReason → Type 0) → Type 0
  WritesStarkRefusal IsReason =
      WritesReason reason_line (λ reason. StandsFor form (λ input. IsReason input reason) text) old
      new needed

  -- of a text that is no JSON or stands for no input, the line that reports it by the reason's name
  -- was written
  abbrev pub WritesUnread : (List ℕ → List ℕ) → Type 0
  WritesUnread line_of =
      (IsNoJson text × IsWritten (line_of (codes "json")) old new needed)
      ⊎ ((error : JsonError) × (IsUnfit form text error
      × IsWritten (line_of (json_name error)) old new needed))

  -- the line of a text that is no JSON was written, or that of why it stands for no input
  abbrev pub WritesUnreadable : Type 0
  WritesUnreadable = WritesUnread unreadable_line

-- the result is one from a caller's challenger in the one state, which is left in the other
abbrev pub WritesResultFrom : {Given : Type 0} → Form Given →
    (Given → List ℕ → List ℕ → List ℕ → Type 0) → List ℕ → List ℕ → List ℕ → ℕ → List ℕ →
    List ℕ → Type 0
WritesResultFrom form IsResult text old new needed start left =
    WritesResult form text old new needed (IsResultFrom IsResult (needed ≤ length old) start left)
