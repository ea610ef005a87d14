use Rattle.std.proofs.Common.{◌≡◌}
use Rattle.circle_relation.specs.StatementOf.{batch_claims}
use Rattle.circle_commands.specs.Verified.{batches_told}
use Rattle.circle_commands.proofs.verify.placed.Given as goal

abbrev pub invariant-loop-batch : goal.invariant-loop-batch
invariant-loop-batch l = batch_claims l.claims.items ≡ batches_told l.yielded
