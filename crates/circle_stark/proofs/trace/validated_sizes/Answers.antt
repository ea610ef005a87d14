use Rattle.std.proofs.Common.{◌∙◌, ap, sym, subst}
use Rattle.circle_air.specs.Degrees.{degree_of_parts}
use Rattle.circle_commit.specs.RowMajorMatrix.{height_of, width_of}
use Rattle.circle_quotient.proofs.Sizes.{is_power_of_two-exponent}
use Rattle.circle_relation.specs.TestsInOrder.{answer}
use Rattle.circle_relation.proofs.Answering.{refused-is}
use Rattle.circle_stark.proofs.Verdicts.{refuses-with}
use Rattle.circle_relation.proofs.Passed.{front_passes, front_refuses}
use Rattle.circle_stark.specs.Refusals.{IsTested}
use Rattle.circle_stark.specs.Trace.{IsNoViolation, shape_tests, size_tests, stated, tests_of_trace}
use Rattle.circle_stark.proofs.Passing.{same-log}
use Rattle.circle_stark.proofs.TracePassing.{log-is, one-of, shaped, sized, supported}
use Rattle.circle_stark.proofs.trace.validated_sizes.Goals as goal

pub returns-in_err-validate_shape-clause-tested : goal.returns-in_err-validate_shape-clause-tested
returns-in_err-validate_shape-clause-tested g c = λ k log.
    let e = c.in_err-validate_shape.field-0.0 in
    let t = c.args.trace.now in
    let s = stated t in
    let two = g.F.ComplexExtendable.CIRCLE_TWO_ADICITY in
    subst (IsTested (tests_of_trace two c.args.params.now k t))
    (sym (refused-is c.from_residual.result e c.from_residual.ensures.1))
    (front_refuses (shape_tests s (width_of t.rows) (height_of t.rows))
    (size_tests two c.args.params.now k s.log_n s.parts.periodic_columns) (tt {0}) (tt {0}) e
    (sym c.validate_shape.ensures ∙ c.in_err-validate_shape.was))

pub log2_strict-requires : goal.log2_strict-requires
log2_strict-requires g c =
    let t = c.args.trace.now in
    let shape = shaped (stated t) (width_of t.rows) (height_of t.rows)
    (sym c.validate_shape.ensures ∙ c.in_ok-validate_shape.was) in
    let power = is_power_of_two-exponent (height_of t.rows) shape.a_power in
    (power.0, c.height.ensures ∙ power.1)

pub returns-in_err-validate_sizes-clause-tested : goal.returns-in_err-validate_sizes-clause-tested
returns-in_err-validate_sizes-clause-tested g c = λ k log.
    let e = c.in_err-validate_sizes.field-0.0 in
    let t = c.args.trace.now in
    let s = stated t in
    let two = g.F.ComplexExtendable.CIRCLE_TWO_ADICITY in
    let n = c.log2_strict.result in
    let kk = c.log_num_quotient_chunks.result in
    let same = same-log (degree_of_parts s.parts) kk k c.log_num_quotient_chunks.ensures log in
    let logs = log-is (height_of t.rows) n (c.log2_strict.ensures.power ∙ c.height.ensures)
    c.log2_strict.ensures.bound in
    subst (IsTested (tests_of_trace two c.args.params.now k t))
    (sym
    (refused-is c.from_residual-in_err-validate_sizes.result e
    c.from_residual-in_err-validate_sizes.ensures.1))
    (front_passes (shape_tests s (width_of t.rows) (height_of t.rows))
    (size_tests two c.args.params.now k s.log_n s.parts.periodic_columns) (tt {0}) (tt {0}) (tt {0})
    (sym c.validate_shape.ensures ∙ c.in_ok-validate_shape.was)
    ∙ ap (λ j. answer (size_tests two c.args.params.now j s.log_n s.parts.periodic_columns)
    (tt {0})) (sym same)
    ∙ ap (λ m. answer (size_tests two c.args.params.now kk m s.parts.periodic_columns) (tt {0}))
    (sym logs)
    ∙ sym c.validate_sizes.ensures ∙ c.in_err-validate_sizes.was)

pub returns-clause-tested : goal.returns-clause-tested
returns-clause-tested g c = λ k log.
    let t = c.args.trace.now in
    let s = stated t in
    let two = g.F.ComplexExtendable.CIRCLE_TWO_ADICITY in
    let kk = c.log_num_quotient_chunks.result in
    let same = same-log (degree_of_parts s.parts) kk k c.log_num_quotient_chunks.ensures log in
    let logs = log-is (height_of t.rows) c.log2_strict.result
    (c.log2_strict.ensures.power ∙ c.height.ensures) c.log2_strict.ensures.bound in
    front_passes (shape_tests s (width_of t.rows) (height_of t.rows))
    (size_tests two c.args.params.now k s.log_n s.parts.periodic_columns) (tt {0}) (tt {0}) (tt {0})
    (sym c.validate_shape.ensures ∙ c.in_ok-validate_shape.was)
    ∙ ap (λ j. answer (size_tests two c.args.params.now j s.log_n s.parts.periodic_columns)
    (tt {0})) (sym same)
    ∙ ap (λ m. answer (size_tests two c.args.params.now kk m s.parts.periodic_columns) (tt {0}))
    (sym logs)
    ∙ sym c.validate_sizes.ensures ∙ c.in_ok-validate_sizes.was

pub returns-clause-log_n : goal.returns-clause-log_n
returns-clause-log_n g c =
    log-is (height_of c.args.trace.now.rows) c.log2_strict.result
    (c.log2_strict.ensures.power ∙ c.height.ensures) c.log2_strict.ensures.bound

pub returns-clause-provable : goal.returns-clause-provable
returns-clause-provable g c =
    let t = c.args.trace.now in
    let s = stated t in
    let two = g.F.ComplexExtendable.CIRCLE_TWO_ADICITY in
    let kk = c.log_num_quotient_chunks.result in
    let logs = log-is (height_of t.rows) c.log2_strict.result
    (c.log2_strict.ensures.power ∙ c.height.ensures) c.log2_strict.ensures.bound in
    sized two c.args.params.now kk s (width_of t.rows) (height_of t.rows)
    (shaped s (width_of t.rows) (height_of t.rows)
    (sym c.validate_shape.ensures ∙ c.in_ok-validate_shape.was))
    c.log_num_quotient_chunks.ensures
    (ap (λ m. answer (size_tests two c.args.params.now kk m s.parts.periodic_columns) (tt {0}))
    (sym logs)
    ∙ sym c.validate_sizes.ensures ∙ c.in_ok-validate_sizes.was)

pub returns-clause-supported : goal.returns-clause-supported
returns-clause-supported g c =
    supported g.F.ComplexExtendable.CIRCLE_TWO_ADICITY c.args.params.now
    c.log_num_quotient_chunks.result c.log2_strict.result
    (stated c.args.trace.now).parts.periodic_columns
    (sym c.validate_sizes.ensures ∙ c.in_ok-validate_sizes.was)

pub returns-clause-width : goal.returns-clause-width
returns-clause-width g c =
    let t = c.args.trace.now in
    (shaped (stated t) (width_of t.rows) (height_of t.rows)
    (sym c.validate_shape.ensures ∙ c.in_ok-validate_shape.was)).columns

pub returns-in_err-validate_shape-clause-early : goal.returns-in_err-validate_shape-clause-early
returns-in_err-validate_shape-clause-early g c =
    let e = c.in_err-validate_shape.field-0.0 in
    let t = c.args.trace.now in
    refuses-with IsNoViolation c.from_residual.result e c.from_residual.ensures.1
    (one-of IsNoViolation (shape_tests (stated t) (width_of t.rows) (height_of t.rows)) e
    (tt, (tt, (tt, tt)))
    (sym c.validate_shape.ensures ∙ c.in_err-validate_shape.was))

pub returns-in_err-validate_sizes-clause-early : goal.returns-in_err-validate_sizes-clause-early
returns-in_err-validate_sizes-clause-early g c =
    let e = c.in_err-validate_sizes.field-0.0 in
    let t = c.args.trace.now in
    refuses-with IsNoViolation c.from_residual-in_err-validate_sizes.result e
    c.from_residual-in_err-validate_sizes.ensures.1
    (one-of IsNoViolation
    (size_tests g.F.ComplexExtendable.CIRCLE_TWO_ADICITY c.args.params.now
    c.log_num_quotient_chunks.result c.log2_strict.result (stated t).parts.periodic_columns) e
    (tt, (tt, (tt, (tt, tt)))) (sym c.validate_sizes.ensures ∙ c.in_err-validate_sizes.was))
