-- The rows of a tree: those of matrices, and those that are opened.
use Rattle.std.specs.Prelude.{ℕ, ◌/◌, ◌^◌, ◌==◌, List, [], ◌∷◌, map, if◌then◌else◌}
use Rattle.std.specs.List.{list_any, flat_map, zip}
use Rattle.circle_commit.specs.declared.matrix.Dimensions.{Dimensions}
use Rattle.circle_commit.specs.declared.matrix.RowMajorMatrix.{RowMajorMatrix}
use Rattle.circle_commit.specs.Mmcs.{greatest, heights, dimensions_of}
use Rattle.circle_commit.specs.RowMajorMatrix.{rows}
use Rattle.std.specs.Prelude.{slice_index_or}
use Rattle.circle_merkle.specs.Tree as Tree

-- the number of positions of a level
abbrev pub size_of : List Dimensions → ℕ → ℕ
size_of dims level = greatest (heights dims) / 2 ^ level

module _ {T : Type 0} (bytes : T → List ℕ) (dims : List Dimensions) where
  -- the bytes of those of the rows, one for each matrix, whose matrices have this height
  abbrev pub bytes_of_height : ℕ → List (List T) → List ℕ
  bytes_of_height height rows = flat_map (λ p. if p.0.height == height then flat_map bytes
      p.1 else []) (zip dims rows)

  -- the rows of a tree, by the list of rows at a level's position
  abbrev pub tree_rows : (ℕ → ℕ → List (List T)) → Tree.Rows
  tree_rows at = record {
    stand = λ level. list_any (λ dim. dim.height == size_of dims level) dims;
    bytes = λ level i. bytes_of_height (size_of dims level) (at level i);
  }

module _ {T : Type 0} where
  -- row i of each matrix
  abbrev pub rows_of : List (RowMajorMatrix T) → ℕ → List (List T)
  rows_of matrices i = map (λ m. slice_index_or (rows m) i []) matrices

  -- the rows of the first index that stands below a level's position
  abbrev pub opened_at : List ℕ → List (List (List T)) → ℕ → ℕ → List (List T)
  opened_at [] opened level i = []
  opened_at (index ∷ indices) [] level i = []
  opened_at (index ∷ indices) (rows ∷ opened) level i =
      if index / 2 ^ level == i then rows else opened_at indices opened level i

-- the rows of the tree over matrices
abbrev pub matrix_rows : {T : Type 0} → (T → List ℕ) → List (RowMajorMatrix T) → Tree.Rows
matrix_rows bytes matrices = tree_rows bytes (dimensions_of matrices)
    (λ level i. rows_of matrices i)
