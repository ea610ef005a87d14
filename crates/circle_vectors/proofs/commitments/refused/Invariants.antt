use Rattle.std.proofs.Common.{◌≤◌}
use Rattle.circle_vectors.proofs.commitments.refused.Given as goal

abbrev pub invariant-loop-change : goal.invariant-loop-change
invariant-loop-change g l = l.count ≤ l.change-index
