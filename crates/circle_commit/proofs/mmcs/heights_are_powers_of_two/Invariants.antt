use Rattle.std.proofs.Common.{All, take}
use Rattle.circle_commit.specs.Matrix.{IsPowerOfTwo}
use Rattle.circle_commit.specs.RowMajorMatrix.{height_of}
use Rattle.circle_commit.proofs.mmcs.heights_are_powers_of_two.Given as goal

abbrev pub invariant-loop-matrix : goal.invariant-loop-matrix
invariant-loop-matrix g l = All (λ m. IsPowerOfTwo (height_of m)) (take l.matrix-index l.matrices)
