use Rattle.std.proofs.Common.{◌≡◌, ◌∙◌, eq-eqb, sym}
use Rattle.circle_challenger.specs.Sha256Challenger.{state_of}
use Rattle.stark_commands.specs.Commands.{verify_from}
use Rattle.circle_c.specs.Challenger.{IsReasonFrom}
use Rattle.circle_c.proofs.Written.{reason_written, refused-from, result_written, texts_unread}
use Rattle.circle_c.specs.Statement.{AreTextsOf}
use Rattle.circle_c.proofs.statement.call_verify_from.Goals as goal

pub returns-in-Err-clause-unreadable : goal.returns-in-Err-clause-unreadable
returns-in-Err-clause-unreadable c = λ two.
    texts_unread c.args.line.now c.refuse.new.line c.refuse.new.needed
    c.args.statement.now c.args.proof.now c.in-Err.unread c.in-Err.ensures.refuses
    c.refuse.ensures.written (sym c.refuse.ensures.status ∙ two)

pub returns-clause-accepted : goal.returns-clause-accepted
returns-clause-accepted c = λ none.
    result_written c.args.line.now c.report-status.new.line c.report-status.new.needed
    c.in-Ok.input
    (AreTextsOf c.args.statement.now c.args.proof.now) c.in-Ok.ensures.reads
    (λ i. verify_from.is_result_from i c.args.challenger.now.state c.leave_if.new.self.state)
    c.line_from.result
    (rw (
      c.to_challenger-own.ensures,
      ← c.leave_if.ensures.taken (eq-eqb c.report-status.result 0 none),
    ) at c.line_from.ensures.result)
    c.report-status.ensures.written (sym c.report-status.ensures.status ∙ none)

pub returns-clause-refused : goal.returns-clause-refused
returns-clause-refused c = λ one.
    reason_written c.args.line.now c.report-status.new.line c.report-status.new.needed
    c.in-Ok.input
    (AreTextsOf c.args.statement.now c.args.proof.now) c.in-Ok.ensures.reads
    (IsReasonFrom verify_from.is_reason_from c.args.challenger.now.state) c.line_from.result
    (refused-from verify_from.is_reason_from _ _
    (state_of c.line_from.new.challenger) c.to_challenger-own.ensures c.in-Ok.input
    c.line_from.result c.line_from.ensures.refused)
    c.report-status.ensures.written (sym c.report-status.ensures.status ∙ one)
