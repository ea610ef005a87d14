use Rattle.std.proofs.Common.{◌≡◌, map, take}
use Rattle.circle_relation.specs.StatementOf.{matrix_claim}
use Rattle.circle_verifier.specs.Batches.{claimed_shape}
use Rattle.circle_verifier.proofs.batches.claimed_shapes.Given as goal

-- the shapes so far
abbrev pub invariant-loop-matrix : goal.invariant-loop-matrix
invariant-loop-matrix g l =
    l.shapes.items ≡ map (λ m. claimed_shape l.log_blowup (matrix_claim m))
    (take l.matrix-index l.matrices)
