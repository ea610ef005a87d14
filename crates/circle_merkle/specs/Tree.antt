-- Trees of digests over rows. The lowest level has a position for each row of the highest matrices;
-- each level above has half as many positions. Levels count from the lowest.
use Rattle.std.specs.Prelude.{ℕ, ◌+◌, ◌-◌, ◌*◌, ◌/◌, ◌%◌, ◌^◌, ◌==◌, ◌&&◌, Bool, not, List, [], ◌∷◌}
use Rattle.std.specs.Prelude.{◌++◌, length, map, filter, drop, if◌then◌else◌}
use Rattle.std.specs.List.{list_any, range_with_len, flat_map}
use Rattle.std.proofs.Common.{zero, suc}

module _ (hash : List ℕ → List ℕ) where
  -- the digest of the bytes of rows
  abbrev pub rows_digest : List ℕ → List ℕ
  rows_digest bytes = hash (0 ∷ bytes)

  -- the digest of a node with these two below it
  abbrev pub node_digest : List ℕ → List ℕ → List ℕ
  node_digest left right = hash ((1 ∷ left) ++ right)

  -- the digest of a node at whose position rows stand too
  abbrev pub joined_digest : List ℕ → List ℕ → List ℕ
  joined_digest node bytes = hash ((2 ∷ node) ++ rows_digest bytes)

-- on which levels rows stand, and the bytes of the rows at a level's position
pub record Rows : Type 0 where
  pub stand : ℕ → Bool
  pub bytes : ℕ → ℕ → List ℕ

module _ (hash : List ℕ → List ℕ) (rows : Rows) where
  -- a node of a level, with the rows at its position where rows stand on that level
  abbrev pub with_rows : ℕ → ℕ → List ℕ → List ℕ
  with_rows level i node = if rows.stand level then joined_digest hash node
      (rows.bytes level i) else node

  -- the digest at position i of a level
  abbrev pub digest : ℕ → ℕ → List ℕ
  digest zero i = rows_digest hash (rows.bytes 0 i)
  digest (suc level) i = with_rows (suc level) i
      (node_digest hash (digest level (2 * i)) (digest level (2 * i + 1)))

  -- the digest at position i of a level, where the digests at positions that aren't known are given
  abbrev pub computed : (ℕ → ℕ → Bool) → (ℕ → ℕ → List ℕ) → ℕ → ℕ → List ℕ
  computed known given zero i = rows_digest hash (rows.bytes 0 i)
  computed known given (suc level) i = with_rows (suc level) i
      (node_digest hash (if known level (2 * i) then computed known given level (2 * i) else given
      level (2 * i))
      (if known level (2 * i + 1) then computed known given level (2 * i + 1) else given level
      (2 * i + 1)))

-- the other position of a pair
abbrev pub sibling : ℕ → ℕ
sibling i = if i % 2 == 0 then i + 1 else i - 1

module _ (indices : List ℕ) where
  -- the position stands above one of the indices, which are positions of the lowest level
  abbrev pub is_known : ℕ → ℕ → Bool
  is_known level i = list_any (λ index. index / 2 ^ level == i) indices

  -- the position isn't known but its sibling is
  abbrev pub is_taken : ℕ → ℕ → Bool
  is_taken level i = is_known level (sibling i) && not (is_known level i)

  module _ (levels : ℕ) where
    -- the known positions of a level in ascending order
    abbrev pub known : ℕ → List ℕ
    known level = filter (is_known level) (range_with_len 0 (2 ^ (levels - level)))

    -- the positions of a level whose digests a proof has, in ascending order: the siblings of known
    -- positions that aren't known themselves
    abbrev pub taken : ℕ → List ℕ
    taken level = filter (is_taken level) (range_with_len 0 (2 ^ (levels - level)))

    -- how many digests a proof has for the lower levels
    abbrev pub taken_below : ℕ → ℕ
    taken_below zero = 0
    taken_below (suc level) = taken_below level + length (taken level)

-- what stands in the second list at the first place of i in the first list
abbrev pub at_place_of : ℕ → List ℕ → List (List ℕ) → List ℕ
at_place_of i [] digests = []
at_place_of i (p ∷ places) [] = []
at_place_of i (p ∷ places) (d ∷ digests) = if p == i then d else at_place_of i places digests

-- the digest that a proof has for a position: level after level from the lowest, the taken
-- positions in ascending order
abbrev pub given : List ℕ → ℕ → List (List ℕ) → ℕ → ℕ → List ℕ
given indices levels proof level i = at_place_of i (taken indices levels level)
    (drop (taken_below indices levels level) proof)

-- the digests of a proof, level after level from the lowest, for these many levels
abbrev pub proof_of : (ℕ → ℕ → List ℕ) → List ℕ → ℕ → ℕ → List (List ℕ)
proof_of at indices levels count = flat_map (λ level. map (at level) (taken indices levels level))
    (range_with_len 0 count)
