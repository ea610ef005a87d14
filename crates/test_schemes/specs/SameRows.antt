-- Matrices with the same rows.
use Rattle.std.specs.Prelude.{◌≡◌, List, map}
use Rattle.circle_commit.specs.declared.matrix.RowMajorMatrix.{RowMajorMatrix}
use Rattle.circle_commit.specs.RowMajorMatrix.{rows}
use Rattle.circle_commit.specs.Mmcs.{dimensions_of}

module _ {T : Type 0} where
  -- the matrices have the same shapes and rows
  pub record HaveSameRows (matrices others : List (RowMajorMatrix T)) : Type 0 where
    pub shapes : dimensions_of matrices ≡ dimensions_of others
    pub rows : map rows matrices ≡ map rows others
