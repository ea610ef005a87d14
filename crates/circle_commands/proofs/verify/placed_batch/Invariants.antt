use Rattle.std.proofs.Common.{◌≡◌}
use Rattle.circle_relation.specs.StatementOf.{matrix_claims}
use Rattle.circle_commands.specs.Verified.{matrices_told}
use Rattle.circle_commands.proofs.verify.placed_batch.Given as goal

abbrev pub invariant-loop-matrix : goal.invariant-loop-matrix
invariant-loop-matrix l = matrix_claims l.matrices.items ≡ matrices_told l.yielded
