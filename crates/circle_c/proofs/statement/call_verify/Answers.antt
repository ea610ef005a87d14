use Rattle.std.proofs.Common.{◌≡◌, ◌∙◌, sym}
use Rattle.stark_commands.specs.Commands.{verify}
use Rattle.circle_c.proofs.Written.{reason_written, result_written, texts_unread}
use Rattle.circle_c.specs.Statement.{AreTextsOf}
use Rattle.circle_c.proofs.statement.call_verify.Goals as goal

pub returns-in-Ok-clause-accepted : goal.returns-in-Ok-clause-accepted
returns-in-Ok-clause-accepted c = λ none.
    result_written c.args.line.now c.report.new.line c.report.new.needed c.in-Ok.input
    (AreTextsOf c.args.statement.now c.args.proof.now) c.in-Ok.ensures.reads
    verify.is_result c.line.result c.line.ensures.result c.report.ensures.written
    (sym c.report.ensures.status ∙ none)

pub returns-in-Ok-clause-refused : goal.returns-in-Ok-clause-refused
returns-in-Ok-clause-refused c = λ one.
    reason_written c.args.line.now c.report.new.line c.report.new.needed c.in-Ok.input
    (AreTextsOf c.args.statement.now c.args.proof.now) c.in-Ok.ensures.reads
    verify.is_reason c.line.result c.line.ensures.refused
    c.report.ensures.written (sym c.report.ensures.status ∙ one)

pub returns-in-Err-clause-unreadable : goal.returns-in-Err-clause-unreadable
returns-in-Err-clause-unreadable c = λ two.
    texts_unread c.args.line.now c.refuse.new.line c.refuse.new.needed
    c.args.statement.now c.args.proof.now c.in-Err.unread c.in-Err.ensures.refuses
    c.refuse.ensures.written (sym c.refuse.ensures.status ∙ two)
