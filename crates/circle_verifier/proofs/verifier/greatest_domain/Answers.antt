use Rattle.std.proofs.Common.{rules, ◌≡◌, ℕ, ◌+◌, ◌<◌, List, ◌++◌, length, drop, sym, ap, ◌∙◌}
use Rattle.std.proofs.Common.{arith}
use Rattle.std.specs.Prelude.{max}
use Rattle.circle_commit.specs.Mmcs.{greatest}
use Rattle.circle_relation.specs.TestsInOrder.{answer}
use Rattle.circle_verifier.specs.Refusals.{domain_tests}
use Rattle.circle_relation.specs.Statement.{all_matrices, log_sizes}
use Rattle.circle_relation.specs.StatementOf.{matrix_claims, batch_claims}
use Rattle.circle_relation.proofs.Answering.{refused-is}
use Rattle.circle_verifier.proofs.Domains.{more_domains, refused_domains, next_batch}
use Rattle.circle_verifier.proofs.verifier.greatest_domain.Goals as goal

pub returns-in_err-greatest_domain_of : goal.returns-in_err-greatest_domain_of
returns-in_err-greatest_domain_of g c =
    let claims = c.args.claims.now in
    let i = c.loop-batch.batch-index in
    let within : i < length claims = omega arith in
    let tests =
    λ (s : List ℕ). domain_tests {C = g.row.CommitErr.Denot} {A = g.row.InputMmcsErr.Denot}
    {B = g.row.FriMmcsErr.Denot} c.args.log_final_poly_len s in
    let sizes = log_sizes (matrix_claims c.batch-item.result.matrices.items) in
    let left = log_sizes (all_matrices (batch_claims (drop (i + 1) claims))) in
    let refused =
    ap
    (λ ms. answer (tests (log_sizes (matrix_claims ms)))
    (greatest (log_sizes (matrix_claims ms)))) (sym c.deref.ensures.value)
    ∙ sym c.greatest_domain_of.ensures ∙ c.in_err-greatest_domain_of.was in
    refused-is c.from_residual.result c.in_err-greatest_domain_of.field-0.0
    c.from_residual.ensures.1
    ∙ sym
    (refused_domains c.args.log_final_poly_len sizes left
    (max c.loop-batch.greatest (greatest (sizes ++ left))) c.in_err-greatest_domain_of.field-0.0
    refused)
    ∙ sym
    (ap (λ s. answer (tests s) (max c.loop-batch.greatest (greatest s)))
    (next_batch claims i c.batch-item.result within c.batch-item.is))
    ∙ c.loop-batch.invariant

pub loop-batch-preserved : goal.loop-batch-preserved
loop-batch-preserved g c =
    let claims = c.args.claims.now in
    let i = c.loop-batch.batch-index in
    let within : i < length claims = omega arith in
    let tests =
    λ (s : List ℕ). domain_tests {C = g.row.CommitErr.Denot} {A = g.row.InputMmcsErr.Denot}
    {B = g.row.FriMmcsErr.Denot} c.args.log_final_poly_len s in
    let sizes = log_sizes (matrix_claims c.batch-item.result.matrices.items) in
    let left = log_sizes (all_matrices (batch_claims (drop (i + 1) claims))) in
    let passed =
    ap
    (λ ms. answer (tests (log_sizes (matrix_claims ms)))
    (greatest (log_sizes (matrix_claims ms)))) (sym c.deref.ensures.value)
    ∙ sym c.greatest_domain_of.ensures ∙ c.in_ok-greatest_domain_of.was in
    let further : c.max-greatest.result ≡ max c.loop-batch.greatest
    c.in_ok-greatest_domain_of.field-0 = search rules in
    ap (λ n. answer (tests left) (max n (greatest left))) further
    ∙ sym
    (more_domains c.args.log_final_poly_len sizes left c.loop-batch.greatest
    c.in_ok-greatest_domain_of.field-0 passed)
    ∙ sym
    (ap (λ s. answer (tests s) (max c.loop-batch.greatest (greatest s)))
    (next_batch claims i c.batch-item.result within c.batch-item.is))
    ∙ c.loop-batch.invariant
