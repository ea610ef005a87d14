use Rattle.std.proofs.Common.{◌≡◌, ℕ, ◌<◌, length, slice_index}
use Rattle.sha2.specs.Sha256.{add32, temp1, temp2}
use Rattle.circle_merkle.specs.Lanes.{variables}
use Rattle.circle_merkle.proofs.lanes.round.Given as goal

abbrev pub invariant-loop-i : goal.invariant-loop-i
invariant-loop-i l = (length l.new_e ≡ 16) × (length l.new_a ≡ 16)
    × ((k : ℕ) → k < l.i → slice_index l.new_e k
    ≡ add32 (slice_index l.d k)
    (temp1 (variables l.a l.b l.c l.d l.e l.f l.g l.h k) l.k (slice_index l.w k)))
    × ((k : ℕ) → k < l.i → slice_index l.new_a k
    ≡ add32 (temp1 (variables l.a l.b l.c l.d l.e l.f l.g l.h k) l.k (slice_index l.w k))
    (temp2 (variables l.a l.b l.c l.d l.e l.f l.g l.h k)))
