-- A matrix as the list of its rows.
use Rattle.std.specs.Prelude.{◌≡◌, ℕ, ◌^◌, List, [], ◌∷◌, map, slice_index_or, take, drop}
use Rattle.std.specs.List.{range_with_len}
use Rattle.std.proofs.Common.{zero, suc}

module _ {T : Type 0} where
  -- the first rows of entries that are stored row after row
  abbrev pub rows_from : ℕ → ℕ → List T → List (List T)
  rows_from width zero entries = []
  rows_from width (suc height) entries = take width entries ∷ rows_from width height
      (drop width entries)

  -- the rows whose indices the map gives, in order
  abbrev pub mapped_rows : (ℕ → ℕ) → ℕ → List (List T) → List (List T)
  mapped_rows index height rows = map (λ r. slice_index_or rows (index r) [])
      (range_with_len 0 height)

  -- column j, with d where a row is too short
  abbrev pub column : T → List (List T) → ℕ → List T
  column d rows j = map (λ row. slice_index_or row j d) rows

-- a power of two
abbrev pub IsPowerOfTwo : ℕ → Type 0
IsPowerOfTwo n = (m : ℕ) × (n ≡ 2 ^ m)
