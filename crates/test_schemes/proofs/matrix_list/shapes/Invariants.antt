use Rattle.std.proofs.Common.{◌≡◌, take}
use Rattle.circle_commit.specs.Mmcs.{dimensions_of}
use Rattle.test_schemes.proofs.matrix_list.shapes.Given as goal

abbrev pub invariant-loop-matrix : goal.invariant-loop-matrix
invariant-loop-matrix g l = l.shapes.items ≡ dimensions_of (take l.matrix-index l.matrices)
