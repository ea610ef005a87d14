use Rattle.std.proofs.Common.{◌≡◌, ℕ, ◌<◌, [], get_or, length}
use Rattle.sha2.specs.Sha256.{digest_bytes}
use Rattle.circle_merkle.specs.Lanes.{lane}
use Rattle.circle_merkle.proofs.lanes.digests.Given as goal

abbrev pub invariant-loop-i : goal.invariant-loop-i
invariant-loop-i l = (length l.digests ≡ 16)
    × ((k : ℕ) → k < l.i → get_or l.digests k [] ≡ digest_bytes (lane k l.state) 8)
