-- What is written of an answer, by its status.
use Rattle.std.proofs.Common.{◌≡◌, ℕ, ◌≤◌, List, Ok, Err, IfErr, IfOk, arith, inl, inr}
use Rattle.std.proofs.Common.{codes, string_bytes, subst}
use Rattle.circle_json.specs.Form.{Form}
use Rattle.circle_commands.specs.Answer.{IsAnswer as IsCommonAnswer, IsNotRead}
use Rattle.circle_commands.specs.Failure.{line_of, status_of}
use Rattle.circle_commands.specs.Program.{Answer as CommonAnswer, answer_line as common_line}
use Rattle.circle_commands.specs.Program.{answer_status as common_status}
use Rattle.circle_commands.specs.declared.failure.Failure.{Failure}
use Rattle.circle_commands.specs.declared.failure.Failure.TheVariants.{Usage, Input, Json, Unfit}
use Rattle.circle_commands.specs.declared.failure.Failure.TheVariants.{Refused, Memory}
use Rattle.circle_commands.specs.declared.failure.Reason.{Reason as CommonReason}
use Rattle.stark_commands.specs.Answer.{IsAnswer}
use Rattle.stark_commands.specs.Failure.{IsRefusedFor, reason_line}
use Rattle.stark_commands.specs.Forms.{proof_form}
use Rattle.stark_commands.specs.Program.{Answer, answer_line, answer_status}
use Rattle.stark_commands.specs.declared.failure.Failure.TheVariants.{Common, Refused as Reasoned}
use Rattle.stark_commands.specs.declared.failure.Reason.{Reason}
use Rattle.circle_c.specs.Challenger.{IsReasonFrom}
use Rattle.circle_c.specs.Line.{IsWritten, WritesLine, WritesReason, WritesRefusal, WritesUnread}
use Rattle.circle_c.specs.Line.{WritesUnreadable}
use Rattle.circle_c.specs.Statement.{IsUnread, WritesUnreadText, failure_line, failure_of, name_of}
use Rattle.circle_c.specs.Statement.{statement_form, unread_line}
use Rattle.circle_c.specs.declared.unread.Unread.{Unread}
use Rattle.circle_c.specs.declared.unread.Unread.TheVariants.{OfStatement, OfProof}

-- a failure to read has the status 1 or 2
pub status_between : (failure : Failure) → (1 ≤ status_of failure) × (status_of failure ≤ 2)
status_between Usage = (omega arith, omega arith)
status_between Input = (omega arith, omega arith)
status_between Json = (omega arith, omega arith)
status_between (Unfit error) = (omega arith, omega arith)
status_between (Refused reason) = (omega arith, omega arith)
status_between Memory = (omega arith, omega arith)

-- a reason to refuse an input from the caller's challenger
pub reason-from : {Given R : Type 0} (IsReason : Given → List ℕ → List ℕ → R → Type 0)
    (start old left : List ℕ) → start ≡ old → (input : Given) (reason : R) →
    IsReason input start left reason → IsReasonFrom IsReason old input reason
reason-from IsReason start old left begun input reason is =
    (left, subst (λ (s : List ℕ). IsReason input s left reason) begun is)

-- so of a command over constraints
pub refused-from : {Given : Type 0} (IsReason : Given → List ℕ → List ℕ → Reason → Type 0)
    (start old left : List ℕ) → start ≡ old → (input : Given) (answer : Answer) →
    IfErr answer (IsRefusedFor (IsReason input start left)) →
    IfErr answer (IsRefusedFor (IsReasonFrom IsReason old input))
refused-from IsReason start old left begun input (Ok line) is = tt
refused-from IsReason start old left begun input (Err (Common failure)) is = is
refused-from IsReason start old left begun input (Err (Reasoned reason)) is =
    reason-from IsReason start old left begun input reason is

module _ (old new : List ℕ) (needed : ℕ) where
  module _ {Input : Type 0} (input : Input) (AreTexts : Input → Type 0) (are : AreTexts input) where
    -- of an input that texts stand for, with the status 0 it is the line of a result
    pub result_written : (IsResult : Input → List ℕ → Type 0) (answer : Answer) →
        IfOk answer (λ line. IsResult input (string_bytes line)) →
        IsWritten (answer_line answer) old new needed → answer_status answer ≡ 0 →
        WritesLine (λ line. (i : Input) × (AreTexts i × IsResult i line)) old new needed
    result_written IsResult (Ok line) holds written none =
        (string_bytes line, ((input, (are, holds)), written))
    result_written IsResult (Err (Common failure)) holds written none =
        absurd (omega (arith, (status_between failure).0, none))
    result_written IsResult (Err (Reasoned reason)) holds written none =
        absurd (omega (arith, none))

    -- with the status 1 that of memory or of a reason
    pub reason_written : (IsReason : Input → Reason → Type 0) (answer : Answer) →
        IfErr answer (IsRefusedFor (IsReason input)) →
        IsWritten (answer_line answer) old new needed → answer_status answer ≡ 1 →
        WritesReason reason_line (λ reason. (i : Input) × (AreTexts i × IsReason i reason)) old new
        needed
    reason_written IsReason (Ok line) holds written one = absurd (omega (arith, one))
    reason_written IsReason (Err (Common failure)) holds written one =
        inl (subst (λ (f : Failure). IsWritten (line_of f) old new needed) holds written)
    reason_written IsReason (Err (Reasoned reason)) holds written one =
        inr (reason, ((input, (are, holds)), written))

  module _ {Given : Type 0} (form : Form Given) (text : List ℕ) where
    -- of a text of this name that isn't read, with the status 2 it is the line of why
    pub unread_written : (name : List ℕ) (failure : Failure) → IsNotRead form text failure →
        IsWritten (failure_line name failure) old new needed → status_of failure ≡ 2 →
        WritesUnread form text old new needed (unread_line name)
    unread_written name Usage is written two = absurd is
    unread_written name Input is written two = absurd is
    unread_written name Json is written two = inl (is, written)
    unread_written name (Unfit error) is written two = inr (error, (is, written))
    unread_written name (Refused reason) is written two = absurd is
    unread_written name Memory is written two = absurd (omega (arith, two))

  -- of two texts of which one isn't read, with the status 2 it is the line of why
  pub texts_unread : (statement proof : List ℕ) (unread : Unread) →
      IsUnread statement proof unread →
      IsWritten (failure_line (name_of unread) (failure_of unread)) old new needed →
      status_of (failure_of unread) ≡ 2 →
      WritesUnreadText statement proof old new needed
  texts_unread statement proof (OfStatement failure) is written two =
      inl (unread_written statement_form statement (codes "statement") failure is written two)
  texts_unread statement proof (OfProof failure) is written two =
      inr (is.0, unread_written proof_form proof (codes "proof") failure is.1 written two)

  module _ {Given : Type 0} (form : Form Given) (text : List ℕ)
      (IsResult : Given → List ℕ → Type 0) (IsReason : Given → CommonReason → Type 0) where
    -- of a command's answer to a text, where its reasons are the caller's, with the status 1 it is
    -- the line of memory or of a reason
    pub reason_told : (Told : Given → CommonReason → Type 0) →
        ((input : Given) (reason : CommonReason) → IsReason input reason → Told input reason) →
        (answer : CommonAnswer) → IsCommonAnswer form IsResult IsReason text answer →
        IsWritten (common_line answer) old new needed → common_status answer ≡ 1 →
        WritesRefusal form text old new needed Told
    reason_told Told then (Ok line) is written one = absurd (omega (arith, one))
    reason_told Told then (Err Usage) is written one = absurd is
    reason_told Told then (Err Input) is written one = absurd is
    reason_told Told then (Err Json) is written one = absurd (omega (arith, one))
    reason_told Told then (Err (Unfit error)) is written one = absurd (omega (arith, one))
    reason_told Told then (Err (Refused reason)) is written one =
        inr (reason, ((is.0, (is.1.0, then is.0 reason is.1.1)), written))
    reason_told Told then (Err Memory) is written one = inl written

  -- of a command over constraints, with the status 2 it is the line of why the text isn't read
  module _ {Given : Type 0} (form : Form Given) (text : List ℕ)
      (IsResult : Given → List ℕ → Type 0) (IsReason : Given → Reason → Type 0) where
    pub call_unread : (answer : Answer) → IsAnswer form IsResult IsReason text answer →
        IsWritten (answer_line answer) old new needed → answer_status answer ≡ 2 →
        WritesUnreadable form text old new needed
    call_unread (Ok line) is written two = absurd (omega (arith, two))
    call_unread (Err (Common Usage)) is written two = absurd is
    call_unread (Err (Common Input)) is written two = absurd is
    call_unread (Err (Common Json)) is written two = inl (is, written)
    call_unread (Err (Common (Unfit error))) is written two = inr (error, (is, written))
    call_unread (Err (Common (Refused reason))) is written two = absurd is
    call_unread (Err (Common Memory)) is written two = absurd (omega (arith, two))
    call_unread (Err (Reasoned reason)) is written two = absurd (omega (arith, two))
