use Rattle.std.proofs.Common.{◌≡◌, ℕ, ◌<◌, length, slice_index}
use Rattle.circle_merkle.specs.Lanes.{IsNextWord}
use Rattle.circle_merkle.proofs.lanes.next_words.Given as goal

abbrev pub invariant-loop-i : goal.invariant-loop-i
invariant-loop-i l = (length l.words ≡ 16)
    × ((k : ℕ) → k < l.i →
    IsNextWord l.second l.seventh l.fifteenth l.sixteenth k (slice_index l.words k))
