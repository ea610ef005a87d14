-- Indices in ascending order, with their places.
use Rattle.std.specs.Prelude.{◌≡◌, ℕ, ◌/◌, ◌^◌, ◌<◌, ◌==◌, List, [], ◌∷◌, All}
use Rattle.std.specs.Prelude.{length, map, slice_index, if◌then◌else◌}
use Rattle.std.specs.List.{range_with_len}
use Rattle.std.specs.List.Sorted.{IsPermutation, IsSorted}
use Rattle.std.specs.Ordering.{nat_cmp, ordering_then}
use Rattle.std.specs.declared.cmp.Ordering.{Ordering}
use Rattle.std.proofs.Common.{suc}
use Rattle.circle_merkle.specs.Tree.{known}

-- the index at a place in the list, with the place
abbrev pub entry_at : List ℕ → ℕ → ℕ × ℕ
entry_at indices k = (slice_index indices k, k)

-- each index with its place in the list
abbrev pub placed : List ℕ → List (ℕ × ℕ)
placed indices = map (entry_at indices) (range_with_len 0 (length indices))

-- by the index, and where these are equal by the place
abbrev pub compared : ℕ × ℕ → ℕ × ℕ → Ordering
compared x y = ordering_then (nat_cmp x.0 y.0) (nat_cmp x.1 y.1)

-- the indices with their places in ascending order
pub record IsOrdered (indices : List ℕ) (order : List (ℕ × ℕ)) : Type 0 where
  pub permuted : IsPermutation (placed indices) order
  pub ascending : IsSorted compared order

-- the place of the first of the indices that stands below this position of a level, and their
-- number where none does
abbrev pub place_of : List ℕ → ℕ → ℕ → ℕ
place_of [] level i = 0
place_of (index ∷ indices) level i = if index / 2 ^ level == i then 0 else suc
    (place_of indices level i)

-- the distinct indices in ascending order, each with the place of the first that equals it
abbrev pub first_places : List ℕ → ℕ → List (ℕ × ℕ)
first_places indices levels = map (λ p. (p, place_of indices 0 p)) (known indices levels 0)

-- where indices below a power of two stood in ascending order with their places, the first of equal
-- ones do
abbrev pub LeavesFirsts : List (ℕ × ℕ) → List (ℕ × ℕ) → Type 0
LeavesFirsts old new =
    (indices : List ℕ) (levels : ℕ) → IsOrdered indices old → All (λ i. i < 2 ^ levels) indices →
    new ≡ first_places indices levels
