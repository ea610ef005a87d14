-- The bytes of the rows of matrices at a position of a level.
use Rattle.std.specs.Prelude.{◌≡◌, ℕ, List, [], length, slice_index_or}
use Rattle.std.proofs.Common.{◌∙◌, sym}
use Rattle.std.proofs.lemmas.List.{length-map}
use Rattle.circle_commit.specs.declared.matrix.RowMajorMatrix.{RowMajorMatrix}
use Rattle.circle_commit.specs.Mmcs.{dimensions_of}
use Rattle.circle_commit.specs.RowMajorMatrix.{rows, width_of, height_of}
use Rattle.circle_merkle.specs.Rows.{bytes_of_height, rows_of}

module _ {T : Type 0} where
  -- the bytes of row i of the matrices of this height
  abbrev pub matrix_bytes : (T → List ℕ) → ℕ → ℕ → List (RowMajorMatrix T) → List ℕ
  matrix_bytes bytes height i matrices =
      bytes_of_height bytes (dimensions_of matrices) height (rows_of matrices i)

  pub matrices_one_each : (matrices : List (RowMajorMatrix T)) (i : ℕ) →
      length (rows_of matrices i) ≡ length (dimensions_of matrices)
  matrices_one_each matrices i =
      length-map matrices (λ m. slice_index_or (rows m) i [])
      ∙ sym (length-map matrices (λ m. record { width = width_of m; height = height_of m }))
