use Rattle.std.proofs.Common.{◌≡◌, ℕ, ◌+◌, ◌*◌, ◌<◌, [], get_or, length, slice_index}
use Rattle.sha2.specs.Sha256.{word_at}
use Rattle.circle_merkle.proofs.lanes.first_words.Given as goal

abbrev pub invariant-loop-t : goal.invariant-loop-t
invariant-loop-t l = (length l.words ≡ 64)
    × ((t : ℕ) → t < l.t → (i : ℕ) → i < 16 → slice_index (get_or l.words t []) i
    ≡ word_at l.bytes (i * l.stride + l.at + 4 * t))
