use Rattle.std.proofs.Common.{◌≡◌, ℕ, ◌+◌, ◌*◌, ◌<◌, List, [], get_or, length, slice_index}
use Rattle.sha2.specs.Sha256.{schedule}
use Rattle.circle_merkle.specs.Lanes.{IsBlock}
use Rattle.circle_merkle.proofs.lanes.schedule.Given as goal

abbrev pub invariant-loop-t : goal.invariant-loop-t
invariant-loop-t l = (length l.words ≡ 64)
    × ((t : ℕ) → t < l.t → (i : ℕ) (block : List ℕ) → i < 16 →
    IsBlock l.bytes (i * l.stride + l.at) block
    → slice_index (get_or l.words t []) i ≡ slice_index (schedule block 48) t)
