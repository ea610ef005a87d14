use Rattle.std.proofs.Common.{◌≡◌, take}
use Rattle.circle_commit.specs.Mmcs.{rows_at_each, opened_rows}
use Rattle.test_schemes.specs.MatrixList.{matrices_of}
use Rattle.test_schemes.proofs.matrix_list.MatrixList.rows_at_each.Given as goal

abbrev pub invariant-loop-index : goal.invariant-loop-index
invariant-loop-index g l = opened_rows l.opened.items
    ≡ rows_at_each (matrices_of l.self) (take l.index-index l.indices)
