use Rattle.std.proofs.Common.{◌≡◌, [], ◌∷◌, Ok, Err, sym, ap, ◌∙◌}
use Rattle.circle_commit.specs.declared.error.FriError.TheVariants.{PointAtInfinity}
use Rattle.circle_commit.specs.declared.params.PowPhase.TheVariants.{Batch}
use Rattle.circle_relation.specs.TestsInOrder.{answer}
use Rattle.circle_verifier.specs.Refusals.{witness_test}
use Rattle.circle_relation.proofs.Answering.{refused-is, skipped, refusing, answer-none}
use Rattle.circle_verifier.proofs.ShapeTests.{refused_first, passed_first}
use Rattle.circle_verifier.proofs.verifier.validate_points.Goals as goal

pub returns-in_err-check_witnesses : goal.returns-in_err-check_witnesses
returns-in_err-check_witnesses g c =
    let witness = witness_test {C = g.row.CommitErr.Denot} {I = g.row.InputErr.Denot} Batch
    c.args.params.now.batch_proof_of_work_bits in
    let e = c.in_err-check_witnesses.field-0.0 in
    let refused : answer
    (witness (g.Witness.PartialEq.eq c.args.batch_pow_witness.now g.Witness.Field.ZERO) ∷ [])
    (tt {0}) ≡ Err e =
    ap (λ b. answer (witness b ∷ []) (tt {0})) (sym c.is_zero.ensures)
    ∙ sym c.check_witnesses.ensures ∙ c.in_err-check_witnesses.was in
    refused-is c.from_residual.result e c.from_residual.ensures.1
    ∙ sym (refused_first (witness _ ∷ []) _ e refused)

pub returns-then-some_at_infinity : goal.returns-then-some_at_infinity
returns-then-some_at_infinity g c =
    let witness = witness_test {C = g.row.CommitErr.Denot} {I = g.row.InputErr.Denot} Batch
    c.args.params.now.batch_proof_of_work_bits in
    let passed : answer
    (witness (g.Witness.PartialEq.eq c.args.batch_pow_witness.now g.Witness.Field.ZERO) ∷ [])
    (tt {0}) ≡ Ok (tt {0}) =
    ap (λ b. answer (witness b ∷ []) (tt {0})) (sym c.is_zero.ensures)
    ∙ sym c.check_witnesses.ensures ∙ c.in_ok-check_witnesses.was in
    sym (passed_first (witness _ ∷ []) ((_, PointAtInfinity) ∷ []) passed
    ∙ refusing (_, PointAtInfinity) [] (tt {0}) (sym c.some_at_infinity.ensures
    ∙ c.if-some_at_infinity.true))

pub returns : goal.returns
returns g c =
    let witness = witness_test {C = g.row.CommitErr.Denot} {I = g.row.InputErr.Denot} Batch
    c.args.params.now.batch_proof_of_work_bits in
    let passed : answer
    (witness (g.Witness.PartialEq.eq c.args.batch_pow_witness.now g.Witness.Field.ZERO) ∷ [])
    (tt {0}) ≡ Ok (tt {0}) =
    ap (λ b. answer (witness b ∷ []) (tt {0})) (sym c.is_zero.ensures)
    ∙ sym c.check_witnesses.ensures ∙ c.in_ok-check_witnesses.was in
    sym (passed_first (witness _ ∷ []) ((_, PointAtInfinity) ∷ []) passed
    ∙ skipped (_, PointAtInfinity) [] (tt {0}) (sym c.some_at_infinity.ensures
    ∙ c.if-some_at_infinity.false)
    ∙ answer-none (tt {0}))
