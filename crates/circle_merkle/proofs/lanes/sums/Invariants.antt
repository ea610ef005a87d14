use Rattle.std.proofs.Common.{◌≡◌, ℕ, ◌<◌, length, slice_index}
use Rattle.sha2.specs.Sha256.{add32}
use Rattle.circle_merkle.proofs.lanes.sums.Given as goal

abbrev pub invariant-loop-i : goal.invariant-loop-i
invariant-loop-i l = (length l.words ≡ 16)
    × ((k : ℕ) → k < l.i → slice_index l.words k ≡ add32 (slice_index l.x k) (slice_index l.y k))
