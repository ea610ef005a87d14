-- What a list of matrices is to contracts.
use Rattle.std.specs.Prelude.{List}
use Rattle.circle_commit.specs.declared.matrix.RowMajorMatrix.{RowMajorMatrix}
use Rattle.test_schemes.specs.declared.matrix_list.MatrixList.{MatrixList}

module _ {T : Type 0} where
  abbrev pub matrices_of : MatrixList T → List (RowMajorMatrix T)
  matrices_of d = d.matrices.items
