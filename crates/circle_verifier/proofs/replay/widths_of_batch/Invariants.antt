use Rattle.std.proofs.Common.{◌≡◌, length, map, take}
use Rattle.circle_relation.specs.StatementOf.{matrix_claims}
use Rattle.circle_transcript.specs.ShapeOf.{matrices_of}
use Rattle.circle_verifier.proofs.replay.widths_of_batch.Given as goal

-- the widths of the matrices so far are there
abbrev pub invariant-loop-matrix : goal.invariant-loop-matrix
invariant-loop-matrix g l =
    matrices_of l.widths.items ≡ map (λ m. map (λ c. length c.values) m.claims)
    (matrix_claims (take l.matrix-index l.matrices))
