use Rattle.std.proofs.Common.{◌∙◌, sym}
use Rattle.circle_c.proofs.Written.{call_unread}
use Rattle.circle_c.proofs.stark_line.call.Goals as goal

pub returns-clause-unreadable : goal.returns-clause-unreadable
returns-clause-unreadable g c = λ two.
    call_unread c.args.line.now c.report.new.line c.report.new.needed g.T.Command.form
    c.args.text.now g.T.Command.is_result g.T.Command.is_reason c.answer.result c.answer.ensures
    c.report.ensures.written (sym c.report.ensures.status ∙ two)
