use Rattle.std.proofs.Common.{◌≡◌, ◌++◌, map, take, flat_map}
use Rattle.circle_relation.specs.StatementOf.{matrix_claims}
use Rattle.circle_transcript.specs.Claims.{claims_of}
use Rattle.circle_relation.specs.Taken.{point_taken}
use Rattle.circle_verifier.proofs.replay.push_batch.Given as goal

-- the claims of the matrices so far are there
abbrev pub invariant-loop-matrix : goal.invariant-loop-matrix
invariant-loop-matrix g l =
    claims_of l.claims.items ≡ claims_of l.initial.claims.items
    ++ flat_map (λ m. map (point_taken g.EF.Operations.ops) m.claims)
    (matrix_claims (take l.matrix-index l.matrices))
