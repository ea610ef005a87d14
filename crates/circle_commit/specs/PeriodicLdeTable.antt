-- What a table of periodic columns is to contracts.
use Rattle.std.specs.Prelude.{ℕ, ◌%◌, List, [], Option, Some, None, Vec, map, slice_get}
use Rattle.std.specs.Prelude.{slice_index_or}
use Rattle.std.specs.declared.alloc.Global.{Global}
use Rattle.circle_commit.specs.RowMajorMatrix.{rows as matrix_rows, width_of as matrix_width}
use Rattle.circle_commit.specs.RowMajorMatrix.{height_of as matrix_height}
use Rattle.circle_commit.specs.declared.matrix.RowMajorMatrix.{RowMajorMatrix}
use Rattle.circle_commit.specs.declared.periodic.PeriodicLdeTable.{PeriodicLdeTable}

module _ {T : Type 0} where
  -- columns as lists of their entries
  abbrev pub columns_of : List (Vec T Global) → List (List T)
  columns_of columns = map (λ column. column.items) columns

  -- of the matrix, where there is one
  abbrev pub width_in : Option (RowMajorMatrix T) → ℕ
  width_in None = 0
  width_in (Some m) = matrix_width m

  abbrev pub height_in : Option (RowMajorMatrix T) → ℕ
  height_in None = 0
  height_in (Some m) = matrix_height m

  abbrev pub rows_in : Option (RowMajorMatrix T) → List (List T)
  rows_in None = []
  rows_in (Some m) = matrix_rows m

  abbrev pub width_of : PeriodicLdeTable T → ℕ
  width_of t = width_in t.values

  abbrev pub height_of : PeriodicLdeTable T → ℕ
  height_of t = height_in t.values

  -- the rows, in order
  abbrev pub rows : PeriodicLdeTable T → List (List T)
  rows t = rows_in t.values

  -- the entry at point i in column c: the rows repeat
  abbrev pub entry_at : PeriodicLdeTable T → ℕ → ℕ → Option T
  entry_at t i c = slice_get (slice_index_or (rows t) (i % height_of t) []) c
