use Rattle.std.proofs.Common.{◌∙◌, ap, sym, length}
use Rattle.circle_commit.specs.RowMajorMatrix.{length-rows}
use Rattle.circle_bench.proofs.timing.fastest_transform.Goals as goal

-- a copy has the rows of the matrix
pub run-requires-clause-height : goal.run-requires-clause-height
run-requires-clause-height c =
    sym (length-rows c.in_ok-copy.copy)
    ∙ ap length (c.in_ok-copy.ensures.rows)
    ∙ length-rows c.in_ok-matrix.matrix
    ∙ c.in_ok-matrix.ensures
