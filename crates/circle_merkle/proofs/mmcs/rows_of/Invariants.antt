use Rattle.std.proofs.Common.{◌≡◌, [], map, take, get_or}
use Rattle.circle_commit.specs.RowMajorMatrix.{rows, height_of}
use Rattle.circle_commit.specs.Mmcs.{max_height, row_at}
use Rattle.circle_merkle.proofs.mmcs.rows_of.Given as goal

abbrev pub invariant-loop-matrix : goal.invariant-loop-matrix
invariant-loop-matrix g l = map (λ row. row.items) l.rows.items
    ≡ map (λ m. get_or (rows m) (row_at (max_height l.matrices) (height_of m) l.index) [])
    (take l.matrix-index l.matrices)
