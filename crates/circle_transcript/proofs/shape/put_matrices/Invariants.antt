use Rattle.std.proofs.Common.{◌≡◌, ◌++◌, take, flat_map, length}
use Rattle.circle_challenger.specs.Step.{be64}
use Rattle.circle_transcript.specs.ShapeOf.{matrices_of}
use Rattle.circle_transcript.proofs.shape.put_matrices.Given as goal

-- the numbers so far are written
abbrev pub invariant-loop-matrix : goal.invariant-loop-matrix
invariant-loop-matrix l = l.text.items ≡ l.initial.text.items
    ++ flat_map (λ m. be64 (length m)) (matrices_of (take l.matrix-index l.matrices))
