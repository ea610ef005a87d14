use Rattle.std.proofs.Common.{◌≡◌, ◌+◌, ◌≤◌, ◌<◌, Ok, sym, ap, ◌∙◌, arith}
use Rattle.std.specs.Prelude.{Result, Err, IsErrAnd}
use Rattle.std.specs.Result.{result_map_both}
use Rattle.circle_relation.specs.Statement.{all_matrices, log_max_height}
use Rattle.circle_relation.specs.StatementOf.{batch_claims}
use Rattle.circle_relation.specs.RunOf.{proof_of}
use Rattle.circle_relation.specs.TestsInOrder.{answer}
use Rattle.circle_relation.proofs.Answering.{refused-is, passed-value, refused-value}
use Rattle.circle_point.specs.Projective.{is_at_infinity}
use Rattle.circle_verifier.specs.OfTested.{parts_of}
use Rattle.circle_verifier.proofs.Known.{tested-of}
use Rattle.circle_verifier.proofs.Seeding.{in-turn, turned, claims_known, shape_same, final_same}
use Rattle.circle_verifier.proofs.Seeding.{points_same_tests, all_parts}
use Rattle.circle_verifier.proofs.tested.TestedRun.new.Given.{Over}
use Rattle.circle_verifier.proofs.tested.TestedRun.new.Goals as goal
use Rattle.circle_verifier.proofs.tested.TestedRun.new.Goals.{In_ok-log_max_height}
use Rattle.circle_verifier.proofs.tested.TestedRun.new.Goals.{In_ok-validate_points}

-- a test's refusal is that of the run
refused : {A B E : Type 0} (f : A → B) (result : Result A E) (e : E) {x : Result B E} →
    IsErrAnd result (λ d. d ≡ e) → x ≡ Err e → result_map_both f (λ d. d) result ≡ x
refused f result e handed is =
    ap (result_map_both f (λ d. d)) (refused-is result e handed) ∙ sym is

-- what is known of claims that pass
known : (g : Over) (c : In_ok-log_max_height g) →
    let p = c.args.params.now in
    let top = c.in_ok-log_max_height.log_max_height in
    (p.log_blowup + p.log_final_poly_len + 1 ≤ top)
    × (top < g.Val.ComplexExtendable.CIRCLE_TWO_ADICITY)
    × (log_max_height p.log_blowup (all_matrices (batch_claims c.args.claims.now)) ≡ top)
known g c =
    claims_known g.row.FriMmcs-Error.Denot g.row.InputMmcs-Error.Denot g.row.FriMmcs-Error.Denot
    g.Val.ComplexExtendable.CIRCLE_TWO_ADICITY c.args.params.now.log_blowup
    c.args.params.now.log_final_poly_len (all_matrices (batch_claims c.args.claims.now)) _
    (sym c.validate_claims.ensures ∙ c.in_ok-log_max_height.was)

-- no test refuses what passes all
whole : (g : Over) (c : In_ok-validate_points g) {V : Type 0} (v : V) →
    answer
    (all_parts {C = g.row.FriMmcs-Error.Denot} {A = g.row.InputMmcs-Error.Denot}
    {B = g.row.FriMmcs-Error.Denot} g.Val.ComplexExtendable.CIRCLE_TWO_ADICITY
    (λ w. g.Val.PartialEq.eq w g.Val.Field.ZERO)
    (is_at_infinity g.EF.PartialEq.eq g.EF.Operations.ops) c.args.params.now
    (batch_claims c.args.claims.now) (proof_of c.args.proof.now)) v ≡ Ok v
whole g c v =
    let p = c.args.params.now in
    let fri = c.args.proof.now.fri_proof in
    let batches = batch_claims c.args.claims.now in
    let first = sym c.validate_claims.ensures ∙ c.in_ok-log_max_height.was in
    let high = claims_known g.row.FriMmcs-Error.Denot g.row.InputMmcs-Error.Denot
    g.row.FriMmcs-Error.Denot g.Val.ComplexExtendable.CIRCLE_TWO_ADICITY
    p.log_blowup p.log_final_poly_len (all_matrices batches) _ first in
    in-turn g.Val.ComplexExtendable.CIRCLE_TWO_ADICITY _ _ c.args.params.now
    (batch_claims c.args.claims.now) (proof_of c.args.proof.now) v
    ∙ turned _ (passed-value _ _ _ first).0
    ∙ turned _ (sym c.validate_parameters.ensures ∙ c.in_ok-validate_parameters.was)
    ∙ turned _
    (shape_same _ p fri batches _ high.2 ∙ sym c.validate_proof_shape.ensures
    ∙ c.in_ok-validate_proof_shape.was)
    ∙ turned _
    (final_same p.log_final_poly_len fri.final_poly _ c.len.ensures ∙ sym c.check_final_poly.ensures
    ∙ c.in_ok-check_final_poly.was)
    ∙ turned _
    (points_same_tests p _ _ c.args.claims.now ∙ sym c.validate_points.ensures
    ∙ c.in_ok-validate_points.was)

pub returns-in_err-log_max_height : goal.returns-in_err-log_max_height
returns-in_err-log_max_height g c =
    refused parts_of _ c.in_err-log_max_height.field-0.0 c.from_residual.ensures.1
    (in-turn g.Val.ComplexExtendable.CIRCLE_TWO_ADICITY _ _ c.args.params.now
    (batch_claims c.args.claims.now) (proof_of c.args.proof.now) _
    ∙ turned _
    (refused-value _ _ _ (sym c.validate_claims.ensures ∙ c.in_err-log_max_height.was)))

pub returns-in_err-validate_parameters : goal.returns-in_err-validate_parameters
returns-in_err-validate_parameters g c =
    refused parts_of _ c.in_err-validate_parameters.field-0.0
    c.from_residual-in_err-validate_parameters.ensures.1
    (in-turn g.Val.ComplexExtendable.CIRCLE_TWO_ADICITY _ _ c.args.params.now
    (batch_claims c.args.claims.now) (proof_of c.args.proof.now) _
    ∙ turned _
    (passed-value _ _ _ (sym c.validate_claims.ensures ∙ c.in_ok-log_max_height.was)).0
    ∙ turned _
    (sym c.validate_parameters.ensures ∙ c.in_err-validate_parameters.was))

pub overflow_sub-num_commit_rounds : goal.overflow_sub-num_commit_rounds
overflow_sub-num_commit_rounds g c =
    omega (arith, (known g (goal.at.overflow_sub-num_commit_rounds g c).In_ok-log_max_height).0)

pub overflow_sub-num_commit_rounds-2 : goal.overflow_sub-num_commit_rounds-2
overflow_sub-num_commit_rounds-2 g c =
    omega (arith, (known g (goal.at.overflow_sub-num_commit_rounds-2 g c).In_ok-log_max_height).0)

pub overflow_sub-num_commit_rounds-3 : goal.overflow_sub-num_commit_rounds-3
overflow_sub-num_commit_rounds-3 g c =
    omega (arith, (known g (goal.at.overflow_sub-num_commit_rounds-3 g c).In_ok-log_max_height).0)

pub returns-in_err-validate_proof_shape : goal.returns-in_err-validate_proof_shape
returns-in_err-validate_proof_shape g c =
    let p = c.args.params.now in
    let fri = c.args.proof.now.fri_proof in
    let batches = batch_claims c.args.claims.now in
    let high = known g (goal.at.returns-in_err-validate_proof_shape g c).In_ok-log_max_height in
    refused parts_of _ c.in_err-validate_proof_shape.field-0.0
    c.from_residual-in_err-validate_proof_shape.ensures.1
    (in-turn g.Val.ComplexExtendable.CIRCLE_TWO_ADICITY _ _ c.args.params.now
    (batch_claims c.args.claims.now) (proof_of c.args.proof.now) _
    ∙ turned _
    (passed-value _ _ _ (sym c.validate_claims.ensures ∙ c.in_ok-log_max_height.was)).0
    ∙ turned _ (sym c.validate_parameters.ensures ∙ c.in_ok-validate_parameters.was)
    ∙ turned _
    (shape_same _ p fri batches _ high.2 ∙ sym c.validate_proof_shape.ensures
    ∙ c.in_err-validate_proof_shape.was))

pub check_final_poly-requires : goal.check_final_poly-requires
check_final_poly-requires g c =
    let high = known g (goal.at.check_final_poly-requires g c).In_ok-log_max_height in
    omega (arith, high.0, high.1, g.met.Val.ComplexExtendable.at_most_62)

pub returns-in_err-check_final_poly : goal.returns-in_err-check_final_poly
returns-in_err-check_final_poly g c =
    let p = c.args.params.now in
    let fri = c.args.proof.now.fri_proof in
    let batches = batch_claims c.args.claims.now in
    let high = known g (goal.at.returns-in_err-check_final_poly g c).In_ok-log_max_height in
    refused parts_of _ c.in_err-check_final_poly.field-0.0
    c.from_residual-in_err-check_final_poly.ensures.1
    (in-turn g.Val.ComplexExtendable.CIRCLE_TWO_ADICITY _ _ c.args.params.now
    (batch_claims c.args.claims.now) (proof_of c.args.proof.now) _
    ∙ turned _
    (passed-value _ _ _ (sym c.validate_claims.ensures ∙ c.in_ok-log_max_height.was)).0
    ∙ turned _ (sym c.validate_parameters.ensures ∙ c.in_ok-validate_parameters.was)
    ∙ turned _
    (shape_same _ p fri batches _ high.2 ∙ sym c.validate_proof_shape.ensures
    ∙ c.in_ok-validate_proof_shape.was)
    ∙ turned _
    (final_same p.log_final_poly_len fri.final_poly _ c.len.ensures ∙ sym c.check_final_poly.ensures
    ∙ c.in_err-check_final_poly.was))

pub returns-in_err-validate_points : goal.returns-in_err-validate_points
returns-in_err-validate_points g c =
    let p = c.args.params.now in
    let fri = c.args.proof.now.fri_proof in
    let batches = batch_claims c.args.claims.now in
    let high = known g (goal.at.returns-in_err-validate_points g c).In_ok-log_max_height in
    refused parts_of _ c.in_err-validate_points.field-0.0
    c.from_residual-in_err-validate_points.ensures.1
    (in-turn g.Val.ComplexExtendable.CIRCLE_TWO_ADICITY _ _ c.args.params.now
    (batch_claims c.args.claims.now) (proof_of c.args.proof.now) _
    ∙ turned _
    (passed-value _ _ _ (sym c.validate_claims.ensures ∙ c.in_ok-log_max_height.was)).0
    ∙ turned _ (sym c.validate_parameters.ensures ∙ c.in_ok-validate_parameters.was)
    ∙ turned _
    (shape_same _ p fri batches _ high.2 ∙ sym c.validate_proof_shape.ensures
    ∙ c.in_ok-validate_proof_shape.was)
    ∙ turned _
    (final_same p.log_final_poly_len fri.final_poly _ c.len.ensures ∙ sym c.check_final_poly.ensures
    ∙ c.in_ok-check_final_poly.was)
    ∙ turned _
    (points_same_tests p _ _ c.args.claims.now ∙ sym c.validate_points.ensures
    ∙ c.in_err-validate_points.was))

pub returns : goal.returns
returns g c = sym (whole g (goal.at.returns g c).In_ok-validate_points _)

pub invariant_of-result : goal.invariant_of-result
invariant_of-result g c = record {
  tested =
      tested-of g.Val.ComplexExtendable.CIRCLE_TWO_ADICITY _ _ c.args.params.now
      (batch_claims c.args.claims.now) (proof_of c.args.proof.now) g.row.FriMmcs-Error.Denot
      g.row.InputMmcs-Error.Denot g.row.FriMmcs-Error.Denot _ _ (whole g c (tt {0}));
  top = sym (known g (goal.at.invariant_of-result g c).In_ok-log_max_height).2;
}
