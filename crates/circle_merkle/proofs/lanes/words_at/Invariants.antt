use Rattle.std.proofs.Common.{◌≡◌, ℕ, ◌+◌, ◌*◌, ◌<◌, length, slice_index}
use Rattle.sha2.specs.Sha256.{word_at}
use Rattle.circle_merkle.proofs.lanes.words_at.Given as goal

abbrev pub invariant-loop-i : goal.invariant-loop-i
invariant-loop-i l = (length l.words ≡ 16)
    × ((k : ℕ) → k < l.i → slice_index l.words k ≡ word_at l.bytes (k * l.stride + l.at))
