-- What a published list of matrices shows.
use Rattle.std.specs.Prelude.{◌≡◌, ℕ, ◌<◌, ◌≤◌, Bool, true, false, List, length, All}
use Rattle.circle_commit.specs.declared.matrix.Dimensions.{Dimensions}
use Rattle.circle_commit.specs.declared.matrix.RowMajorMatrix.{RowMajorMatrix}
use Rattle.circle_commit.specs.Mmcs.{dimensions_of, max_height, rows_at_each}
use Rattle.test_schemes.specs.MatrixList.{matrices_of}
use Rattle.test_schemes.specs.SameRows.{HaveSameRows}
use Rattle.test_schemes.specs.declared.matrix_list.MatrixList.{MatrixList}
use Rattle.test_schemes.specs.declared.schemes.ListError.{ListError}
use Rattle.test_schemes.specs.declared.schemes.ListError.TheVariants.{WrongIndex, WrongShape}
use Rattle.test_schemes.specs.declared.schemes.ListError.TheVariants.{WrongRows, Memory}

-- the opened rows are those of the matrices, whose shapes these are
pub record Shows {T : Type 0} (matrices : List (RowMajorMatrix T)) (dims : List Dimensions)
    (indices : List ℕ) (opened : List (List (List T))) : Type 0 where
  pub shapes : dims ≡ dimensions_of matrices
  pub some : 1 ≤ length indices
  pub in_range : All (λ index. index < max_height matrices) indices
  pub rows : opened ≡ rows_at_each matrices indices

-- opened rows are shown to every commitment with the rows of some matrices
abbrev pub AreShown : {T : Type 0} → MatrixList T → List ℕ → List (List (List T)) → Type 0
AreShown {T = T} list indices opened =
    (commitment : MatrixList T) → HaveSameRows (matrices_of list) (matrices_of commitment) →
    Shows (matrices_of commitment) (dimensions_of (matrices_of list)) indices opened

-- the error says that memory was refused
abbrev pub says_memory : ListError → Bool
says_memory WrongIndex = false
says_memory WrongShape = false
says_memory WrongRows = false
says_memory Memory = true
