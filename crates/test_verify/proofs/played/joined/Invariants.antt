use Rattle.std.proofs.Common.{◌≡◌, take, flat_map}
use Rattle.circle_transcript.specs.ShapeOf.{matrices_of}
use Rattle.test_verify.proofs.played.joined.Given as goal

-- the numbers of the matrices so far are there
abbrev pub invariant-loop-matrix : goal.invariant-loop-matrix
invariant-loop-matrix l =
    l.all.items ≡ flat_map (λ m. m) (matrices_of (take l.matrix-index l.matrices))
