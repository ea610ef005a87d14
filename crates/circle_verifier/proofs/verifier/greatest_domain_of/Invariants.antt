use Rattle.std.proofs.Common.{◌≡◌, drop}
use Rattle.std.specs.Prelude.{max}
use Rattle.circle_commit.specs.Mmcs.{greatest}
use Rattle.circle_relation.specs.Statement.{log_sizes}
use Rattle.circle_relation.specs.StatementOf.{matrix_claims}
use Rattle.circle_relation.specs.TestsInOrder.{answer}
use Rattle.circle_verifier.specs.Refusals.{domain_tests}
use Rattle.circle_verifier.proofs.verifier.greatest_domain_of.Given as goal

-- the result is that for the matrices that are left, beside the greatest of the others
abbrev pub invariant-loop-matrix : goal.invariant-loop-matrix
invariant-loop-matrix g l =
    let sizes = log_sizes (matrix_claims l.matrices) in
    let left = log_sizes (matrix_claims (drop l.matrix-index l.matrices)) in
    answer
    (domain_tests {C = g.row.CommitErr.Denot} {A = g.row.InputMmcsErr.Denot}
    {B = g.row.FriMmcsErr.Denot} l.log_final_poly_len left) (max l.greatest (greatest left))
    ≡ answer (domain_tests l.log_final_poly_len sizes) (greatest sizes)
