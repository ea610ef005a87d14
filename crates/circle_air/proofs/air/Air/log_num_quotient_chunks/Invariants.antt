use Rattle.std.proofs.Common.{◌≡◌, ℕ, ◌+◌, ◌-◌, ◌^◌, ◌<◌, ◌≤◌}
use Rattle.circle_air.proofs.air.Air.log_num_quotient_chunks.Given as goal

abbrev pub invariant-loop-chunks : goal.invariant-loop-chunks
invariant-loop-chunks g l = record {
  positive : 1 ≤ l.log;
  below : l.log < l.chunks;
  chunks : l.chunks ≡ 2 ^ l.log;
  more : (m : ℕ) → 1 ≤ m → m < l.log → 2 ^ m + 1 < l.self.max_constraint_degree;
}

abbrev pub decreases-loop-chunks : goal.decreases-loop-chunks
decreases-loop-chunks g l = l.self.max_constraint_degree - l.chunks
