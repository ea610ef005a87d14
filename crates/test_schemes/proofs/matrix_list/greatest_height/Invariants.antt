use Rattle.std.proofs.Common.{◌≡◌, take}
use Rattle.circle_commit.specs.Mmcs.{max_height}
use Rattle.test_schemes.proofs.matrix_list.greatest_height.Given as goal

abbrev pub invariant-loop-matrix : goal.invariant-loop-matrix
invariant-loop-matrix g l = l.top ≡ max_height (take l.matrix-index l.matrices)
