use Rattle.std.proofs.Common.{◌≡◌, take}
use Rattle.circle_transcript.specs.ShapeOf.{matrices_of}
use Rattle.circle_transcript.proofs.shape.copied_matrices.Given as goal

-- the matrices so far are copied
abbrev pub invariant-loop-matrix : goal.invariant-loop-matrix
invariant-loop-matrix l = matrices_of l.copies.items ≡ matrices_of (take l.matrix-index l.matrices)
