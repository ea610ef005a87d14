use Rattle.std.proofs.Common.{◌≡◌, ◌*◌, length, take}
use Rattle.sha2.specs.Sha256.{digest_bytes}
use Rattle.circle_merkle.specs.Lanes.{lane}
use Rattle.circle_merkle.proofs.lanes.digest.Given as goal

abbrev pub invariant-loop-j : goal.invariant-loop-j
invariant-loop-j l = (length l.digest ≡ 32)
    × (take (4 * l.j) l.digest ≡ digest_bytes (lane l.i l.state) l.j)
