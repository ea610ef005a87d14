-- Lists of rows.
use Rattle.std.specs.Prelude.{◌≡◌, ℕ, ◌≤◌, List, [], ◌∷◌, length, map, All, Vec}
use Rattle.std.specs.declared.alloc.Global.{Global}

module _ {T : Type 0} where
  -- the lists that the vectors hold
  abbrev pub lists : List (Vec T Global) → List (List T)
  lists rows = map (λ row. row.items) rows

  -- all rows have one length, which isn't 0
  abbrev pub IsRectangular : List (List T) → Type 0
  IsRectangular rows = (width : ℕ) × ((1 ≤ width) × All (λ row. length row ≡ width) rows)

  -- the length of the first row
  abbrev pub row_length : List (List T) → ℕ
  row_length [] = 0
  row_length (row ∷ rows) = length row
