-- What a view of stored rows is to contracts: its width and its list of rows.
use Rattle.std.specs.Prelude.{◌≡◌, ℕ, ◌≤◌, ◌/◌, List, length, All}
use Rattle.std.proofs.Common.{◌*◌, arith}
use Rattle.circle_commit.specs.Matrix.{rows_from}
use Rattle.circle_commit.specs.RowFacts.{length-rows_from, rows_from-widths}
use Rattle.circle_commit.specs.declared.view.RowMajorMatrixView.{RowMajorMatrixView}

module _ {T : Type 0} where
  abbrev pub width_of : RowMajorMatrixView T → ℕ
  width_of m = m.width

  abbrev pub height_of : RowMajorMatrixView T → ℕ
  height_of m = length m.values.now / m.width

  -- the rows, in order
  abbrev pub rows : RowMajorMatrixView T → List (List T)
  rows m = rows_from m.width (height_of m) m.values.now

  pub positive_width : (m : RowMajorMatrixView T) → 1 ≤ width_of m
  positive_width m = m.width_positive

  pub length-rows : (m : RowMajorMatrixView T) → length (rows m) ≡ height_of m
  length-rows m = length-rows_from m.width (height_of m) m.values.now

  pub rows-width : (m : RowMajorMatrixView T) → All (λ row. length row ≡ width_of m) (rows m)
  rows-width m =
      let positive : 1 ≤ m.width = m.width_positive in
      let small : height_of m * m.width ≤ length m.values.now = omega arith in
      rows_from-widths m.width (height_of m) m.values.now small
