use Rattle.std.proofs.Common.{◌∙◌, sym}
use Rattle.circle_challenger.specs.Sha256Challenger.{state_of}
use Rattle.circle_c.specs.Challenger.{IsReasonFrom}
use Rattle.circle_c.proofs.Written.{reason-from, reason_told}
use Rattle.circle_c.proofs.line.call_from.Goals as goal

pub returns-clause-refused : goal.returns-clause-refused
returns-clause-refused g c = λ one.
    let start = state_of c.to_challenger-own.result in
    let left = state_of c.answer_from.new.challenger in
    reason_told c.args.line.now c.report-status.new.line c.report-status.new.needed
    g.T.Command.form c.args.text.now (λ i. g.T.CommandFrom.is_result_from i start left)
    (λ i. g.T.CommandFrom.is_reason_from i start left)
    (IsReasonFrom g.T.CommandFrom.is_reason_from c.args.challenger.now.state)
    (reason-from g.T.CommandFrom.is_reason_from start _ left c.to_challenger-own.ensures)
    c.answer_from.result c.answer_from.ensures c.report-status.ensures.written
    (sym c.report-status.ensures.status ∙ one)
