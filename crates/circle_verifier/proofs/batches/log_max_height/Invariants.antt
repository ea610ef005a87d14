use Rattle.std.proofs.Common.{◌≡◌, drop}
use Rattle.std.specs.Prelude.{max}
use Rattle.circle_relation.specs.Statement.{log_max_height}
use Rattle.circle_relation.specs.StatementOf.{matrix_claims}
use Rattle.circle_verifier.proofs.batches.log_max_height.Given as goal

-- the greatest of those so far, beside that of the others, is the greatest of all
abbrev pub invariant-loop-matrix : goal.invariant-loop-matrix
invariant-loop-matrix g l =
    max l.greatest (log_max_height l.log_blowup (matrix_claims (drop l.matrix-index l.matrices)))
    ≡ log_max_height l.log_blowup (matrix_claims l.matrices)
