-- What a stored matrix is to contracts: its width and its list of rows.
use Rattle.std.specs.Prelude.{◌≡◌, ℕ, ◌≤◌, ◌/◌, List, length, All, vec_len}
use Rattle.std.proofs.Common.{◌*◌, arith}
use Rattle.circle_commit.specs.Matrix.{rows_from}
use Rattle.circle_commit.specs.RowFacts.{length-rows_from, rows_from-widths}
use Rattle.circle_commit.specs.declared.matrix.RowMajorMatrix.{RowMajorMatrix}

module _ {T : Type 0} where
  abbrev pub width_of : RowMajorMatrix T → ℕ
  width_of m = m.width

  abbrev pub height_of : RowMajorMatrix T → ℕ
  height_of m = vec_len m.values / m.width

  -- the entries, row after row
  abbrev pub values_of : RowMajorMatrix T → List T
  values_of m = m.values.items

  -- the rows, in order
  abbrev pub rows : RowMajorMatrix T → List (List T)
  rows m = rows_from (width_of m) (height_of m) (values_of m)

  pub positive_width : (m : RowMajorMatrix T) → 1 ≤ width_of m
  positive_width m = m.width_positive

  pub length-values : (m : RowMajorMatrix T) → length (values_of m) ≡ height_of m * width_of m
  length-values m = let positive : 1 ≤ m.width = m.width_positive in
      omega (arith, m.values.ok.0, m.whole_rows)

  pub length-rows : (m : RowMajorMatrix T) → length (rows m) ≡ height_of m
  length-rows m = length-rows_from m.width (height_of m) m.values.items

  pub rows-width : (m : RowMajorMatrix T) → All (λ row. length row ≡ width_of m) (rows m)
  rows-width m =
      let positive : 1 ≤ m.width = m.width_positive in
      let small : height_of m * m.width ≤ length m.values.items = omega (arith, m.values.ok.0) in
      rows_from-widths m.width (height_of m) m.values.items small
