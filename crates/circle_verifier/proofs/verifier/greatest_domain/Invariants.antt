use Rattle.std.proofs.Common.{◌≡◌, drop}
use Rattle.std.specs.Prelude.{max}
use Rattle.circle_commit.specs.Mmcs.{greatest}
use Rattle.circle_relation.specs.TestsInOrder.{answer}
use Rattle.circle_verifier.specs.Refusals.{domain_tests}
use Rattle.circle_relation.specs.Statement.{all_matrices, log_sizes}
use Rattle.circle_relation.specs.StatementOf.{batch_claims}
use Rattle.circle_verifier.proofs.verifier.greatest_domain.Given as goal

-- the result is that for the batches that are left, beside the greatest of the others
abbrev pub invariant-loop-batch : goal.invariant-loop-batch
invariant-loop-batch g l =
    let sizes = log_sizes (all_matrices (batch_claims l.claims)) in
    let left = log_sizes (all_matrices (batch_claims (drop l.batch-index l.claims))) in
    answer
    (domain_tests {C = g.row.CommitErr.Denot} {A = g.row.InputMmcsErr.Denot}
    {B = g.row.FriMmcsErr.Denot} l.log_final_poly_len left) (max l.greatest (greatest left))
    ≡ answer (domain_tests l.log_final_poly_len sizes) (greatest sizes)
