-- Definitions for commitments to several matrices at once.
use Rattle.std.specs.Prelude.{ℕ, ◌/◌, List, [], ◌∷◌, map, All, slice_index_or, max, Vec}
use Rattle.std.specs.declared.alloc.Global.{Global}
use Rattle.circle_commit.specs.Matrix.{IsPowerOfTwo}
use Rattle.circle_commit.specs.declared.matrix.Dimensions.{Dimensions}
use Rattle.circle_commit.specs.declared.matrix.RowMajorMatrix.{RowMajorMatrix}
use Rattle.circle_commit.specs.RowMajorMatrix.{rows, width_of, height_of}

-- the greatest of numbers, 0 where there is none
abbrev pub greatest : List ℕ → ℕ
greatest [] = 0
greatest (n ∷ ns) = max n (greatest ns)

-- the row of a matrix of this height at an index below the greatest height: for heights 2^h and 2^H
-- it is the index without its lowest H - h bits
abbrev pub row_at : ℕ → ℕ → ℕ → ℕ
row_at top height index = index / (top / height)

-- the shapes of matrices
abbrev pub heights : List Dimensions → List ℕ
heights dims = map (λ dim. dim.height) dims

module _ {T : Type 0} where
  abbrev pub dimensions_of : List (RowMajorMatrix T) → List Dimensions
  dimensions_of matrices = map (λ m. record { width = width_of m; height = height_of m }) matrices

  -- the heights of all matrices are powers of two
  abbrev pub HaveHeightsOfPowers : List (RowMajorMatrix T) → Type 0
  HaveHeightsOfPowers matrices = All (λ m. IsPowerOfTwo (height_of m)) matrices

  abbrev pub max_height : List (RowMajorMatrix T) → ℕ
  max_height matrices = greatest (heights (dimensions_of matrices))

  -- the rows of the matrices at an index, one for each matrix
  abbrev pub rows_at : List (RowMajorMatrix T) → ℕ → List (List T)
  rows_at matrices index = map (λ m. slice_index_or (rows m)
      (row_at (max_height matrices) (height_of m) index) []) matrices

  -- under each commitment of the matrices, the opened rows are shown to be theirs
  abbrev pub IsShownOf : {C P : Type 0} → (List (RowMajorMatrix T) → C → Type 0)
      → (C → List Dimensions → List ℕ → List (List (List T)) → P → Type 0)
      → List (RowMajorMatrix T) → List ℕ → List (List (List T)) → P → Type 0
  IsShownOf {C = C} Commits Authenticates matrices indices opened proof =
      (commitment : C) → Commits matrices commitment
      → Authenticates commitment (dimensions_of matrices) indices opened proof

  -- the rows of the matrices at each of the indices
  abbrev pub rows_at_each : List (RowMajorMatrix T) → List ℕ → List (List (List T))
  rows_at_each matrices indices = map (rows_at matrices) indices

  -- the rows that vectors hold: for each index, for each matrix, the entries
  abbrev pub opened_rows : List (Vec (Vec T Global) Global) → List (List (List T))
  opened_rows values = map (λ rows. map (λ row. row.items) rows.items) values
