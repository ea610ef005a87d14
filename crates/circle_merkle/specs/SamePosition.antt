-- Rows of one matrix at one position.
use Rattle.std.specs.Prelude.{◌≡◌, ℕ, ◌+◌, ◌/◌, List, [], slice_index_or}

module _ {T : Type 0} (order : List (ℕ × ℕ)) (opened : List (List (List T))) where
  -- the k-th of the indices in their order, and its place
  abbrev pub nth : ℕ → ℕ × ℕ
  nth k = slice_index_or order k (0, 0)

  -- the row of matrix j at the k-th of the indices in their order
  abbrev pub row_of : ℕ → ℕ → List T
  row_of j k = slice_index_or (slice_index_or opened (nth k).1 []) j []

  -- the rows of matrix j agree at the k-th index and the next, if these stand for one row of it
  abbrev pub NeighborsAgree : ℕ → ℕ → ℕ → Type 0
  NeighborsAgree divisor j k = (nth k).0 / divisor ≡ (nth (k + 1)).0 / divisor →
      row_of j k ≡ row_of j (k + 1)
