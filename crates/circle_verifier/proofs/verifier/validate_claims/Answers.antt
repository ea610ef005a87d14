use Rattle.std.proofs.Common.{◌≡◌, ◌+◌, ◌<◌, ◌≤◌, sym, ap, ◌∙◌, arith, Ok, Err}
use Rattle.circle_commit.specs.declared.error.FriError.TheVariants.{GlobalMaxHeightTooLarge}
use Rattle.circle_relation.specs.Statement.{all_matrices, log_sizes, log_max_height}
use Rattle.circle_relation.specs.StatementOf.{batch_claims}
use Rattle.circle_relation.proofs.Answering.{refused-is}
use Rattle.circle_verifier.proofs.HeightTests.{claims_refused, none_claimed, too_high, fits_group}
use Rattle.circle_verifier.proofs.HeightTests.{height_is}
use Rattle.circle_verifier.proofs.verifier.validate_claims.Goals as goal

pub returns-in_err-greatest : goal.returns-in_err-greatest
returns-in_err-greatest g c =
    let matrices = all_matrices (batch_claims c.args.claims.now) in
    refused-is c.from_residual.result c.in_err-greatest.field-0.0 c.from_residual.ensures.1
    ∙ sym (claims_refused _ _ _ (log_max_height c.args.log_blowup matrices) (log_sizes matrices)
    c.in_err-greatest.field-0.0 (sym c.greatest_domain.ensures ∙ c.in_err-greatest.was))

pub returns-then-greatest-eq0 : goal.returns-then-greatest-eq0
returns-then-greatest-eq0 g c =
    let matrices = all_matrices (batch_claims c.args.claims.now) in
    sym (none_claimed _ _ _ (log_max_height c.args.log_blowup matrices) (log_sizes matrices)
    (sym c.greatest_domain.ensures ∙ c.in_ok-greatest.was ∙ ap Ok c.if-greatest-eq0.true))

pub
    returns-then-log_global_max_height-CIRCLE_TWO_ADICITY :
    goal.returns-then-log_global_max_height-CIRCLE_TWO_ADICITY
returns-then-log_global_max_height-CIRCLE_TWO_ADICITY g c =
    let matrices = all_matrices (batch_claims c.args.claims.now) in
    let m = c.in_ok-greatest.greatest in
    let two = g.F.ComplexExtendable.CIRCLE_TWO_ADICITY in
    let some : 1 ≤ m = omega arith in
    let high : two ≤ m + c.args.log_blowup = omega arith in
    let answered =
    too_high two c.args.log_blowup c.args.log_final_poly_len
    (log_max_height c.args.log_blowup matrices) m some (log_sizes matrices)
    (sym c.greatest_domain.ensures ∙ c.in_ok-greatest.was) high in
    let adicity = c.CIRCLE_TWO_ADICITY-then-log_global_max_height-CIRCLE_TWO_ADICITY in
    let height = c.saturating_add-log_global_max_height in
    ap (λ n. Err (GlobalMaxHeightTooLarge height.result n)) adicity.ensures
    ∙ ap (λ n. Err (GlobalMaxHeightTooLarge n two)) height.ensures ∙ sym answered

pub returns : goal.returns
returns g c =
    let matrices = all_matrices (batch_claims c.args.claims.now) in
    let m = c.in_ok-greatest.greatest in
    let two = g.F.ComplexExtendable.CIRCLE_TWO_ADICITY in
    let some : 1 ≤ m = omega arith in
    let low : m + c.args.log_blowup < two = omega arith in
    let passed = sym c.greatest_domain.ensures ∙ c.in_ok-greatest.was in
    let height : c.saturating_add-log_global_max_height.result ≡ m + c.args.log_blowup =
    omega arith in
    ap Ok
    (height
    ∙ sym (height_is c.args.log_blowup c.args.log_final_poly_len m matrices some passed))
    ∙ sym
    (fits_group two c.args.log_blowup c.args.log_final_poly_len
    (log_max_height c.args.log_blowup matrices) m some (log_sizes matrices) passed low)
