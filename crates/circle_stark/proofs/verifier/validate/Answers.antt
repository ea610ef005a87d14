use Rattle.std.proofs.Common.{◌∙◌, ap, sym, subst}
use Rattle.circle_air.specs.Degrees.{degree_of_parts}
use Rattle.circle_relation.specs.TestsInOrder.{answer}
use Rattle.circle_relation.proofs.Answering.{refused-is}
use Rattle.circle_relation.proofs.Passed.{front_passes, front_refuses}
use Rattle.circle_stark.specs.Provable.{HasShape}
use Rattle.circle_stark.specs.Refusals.{IsTested, stark_tests, statement_tests, value_tests}
use Rattle.circle_stark.specs.Statement.{statement_of, values_of}
use Rattle.circle_stark.proofs.Passing.{same-log, shaped}
use Rattle.circle_stark.proofs.verifier.validate.Goals as goal

pub returns-in_err-log_chunks-clause-tested : goal.returns-in_err-log_chunks-clause-tested
returns-in_err-log_chunks-clause-tested g c = λ k log.
    let e = c.in_err-log_chunks.field-0.0 in
    let s = statement_of c.args.statement.now in
    let v = values_of c.args.proof.now.opened_values in
    let degree = g.EF.ExtensionField.DEGREE in
    let two = g.Val.ComplexExtendable.CIRCLE_TWO_ADICITY in
    subst (IsTested (stark_tests two c.args.params.now k degree s v))
    (sym (refused-is c.from_residual.result e c.from_residual.ensures.1))
    (front_refuses (statement_tests two c.args.params.now k s)
    (value_tests k degree s.parts.width v) (tt {0}) (tt {0}) e
    (c.in_err-log_chunks.ensures.tested k log))

pub returns-in_err-validate_values-clause-tested :
    goal.returns-in_err-validate_values-clause-tested
returns-in_err-validate_values-clause-tested g c = λ k log.
    let e = c.in_err-validate_values.field-0.0 in
    let s = statement_of c.args.statement.now in
    let v = values_of c.args.proof.now.opened_values in
    let degree = g.EF.ExtensionField.DEGREE in
    let two = g.Val.ComplexExtendable.CIRCLE_TWO_ADICITY in
    let same = same-log (degree_of_parts s.parts) c.in_ok-log_chunks.log_chunks k
    c.in_ok-log_chunks.ensures.provable.domains.chunks log in
    let refused = ap (λ j. answer (value_tests j degree s.parts.width v) (tt {0})) (sym same)
    ∙ ap (λ w. answer (value_tests c.in_ok-log_chunks.log_chunks degree w v) (tt {0}))
    (sym c.width-width.ensures)
    ∙ sym c.validate_values.ensures ∙ c.in_err-validate_values.was in
    subst (IsTested (stark_tests two c.args.params.now k degree s v))
    (sym
    (refused-is c.from_residual-in_err-validate_values.result e
    c.from_residual-in_err-validate_values.ensures.1))
    (front_passes (statement_tests two c.args.params.now k s) (value_tests k degree s.parts.width v)
    (tt {0}) (tt {0}) (tt {0}) (c.in_ok-log_chunks.ensures.tested k log)
    ∙ refused)

pub returns-clause-tested : goal.returns-clause-tested
returns-clause-tested g c = λ k log.
    let s = statement_of c.args.statement.now in
    let v = values_of c.args.proof.now.opened_values in
    let degree = g.EF.ExtensionField.DEGREE in
    let two = g.Val.ComplexExtendable.CIRCLE_TWO_ADICITY in
    let same = same-log (degree_of_parts s.parts) c.in_ok-log_chunks.log_chunks k
    c.in_ok-log_chunks.ensures.provable.domains.chunks log in
    front_passes (statement_tests two c.args.params.now k s) (value_tests k degree s.parts.width v)
    (tt {0}) (tt {0}) (tt {0}) (c.in_ok-log_chunks.ensures.tested k log)
    ∙ ap (λ j. answer (value_tests j degree s.parts.width v) (tt {0})) (sym same)
    ∙ ap (λ w. answer (value_tests c.in_ok-log_chunks.log_chunks degree w v) (tt {0}))
    (sym c.width-width.ensures)
    ∙ sym c.validate_values.ensures ∙ c.in_ok-validate_values.was

pub returns-clause-shape : goal.returns-clause-shape
returns-clause-shape g c =
    let v = values_of c.args.proof.now.opened_values in
    subst (λ w. HasShape g.EF.ExtensionField.DEGREE w c.in_ok-log_chunks.log_chunks v)
    c.width-width.ensures
    (shaped c.in_ok-log_chunks.log_chunks g.EF.ExtensionField.DEGREE c.width-width.result v
    (sym c.validate_values.ensures ∙ c.in_ok-validate_values.was))
