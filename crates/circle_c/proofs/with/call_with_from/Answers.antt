use Rattle.std.proofs.Common.{◌∙◌, ℕ, List, subst, sym}
use Rattle.circle_challenger.specs.Sha256Challenger.{state_of}
use Rattle.circle_c.specs.Challenger.{IsReasonFrom}
use Rattle.circle_c.specs.Params.{HasNumbersBy}
use Rattle.circle_c.specs.With.{IsReasonWith, IsResultWith}
use Rattle.circle_c.proofs.Written.{reason_told}
use Rattle.circle_c.proofs.with.call_with_from.Goals as goal

pub returns-clause-refused : goal.returns-clause-refused
returns-clause-refused g c = λ one.
    let has = HasNumbersBy g.T.Parametrized.params_of c.args.params.now in
    let reason = g.T.CommandFrom.is_reason_from in
    let start = state_of c.to_challenger-own.result in
    let left = state_of c.answer_with_from-answer.new.challenger in
    reason_told c.args.line.now c.report-status.new.line c.report-status.new.needed
    g.T.Command.form c.args.text.now
    (IsResultWith has (λ i. g.T.CommandFrom.is_result_from i start left))
    (IsReasonWith has (IsReasonFrom reason start))
    (IsReasonWith has (IsReasonFrom reason c.args.challenger.now.state))
    (λ i r is. subst (λ (s : List ℕ). IsReasonWith has (IsReasonFrom reason s) i r)
    c.to_challenger-own.ensures is) c.answer_with_from-answer.result
    c.answer_with_from-answer.ensures c.report-status.ensures.written
    (sym c.report-status.ensures.status ∙ one)
