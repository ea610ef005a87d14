use Rattle.std.proofs.Common.{◌≡◌, [], ◌∷◌, map, take}
use Rattle.circle_relation.specs.StatementOf.{matrix_claims}
use Rattle.circle_stark.specs.Claims.{at, claimed}
use Rattle.circle_stark.proofs.claims.chunk_claims.Given as goal

abbrev pub invariant-loop-chunk : goal.invariant-loop-chunk
invariant-loop-chunk g l =
    matrix_claims l.claims.items
    ≡ map (λ chunk. claimed l.log_n (at l.point chunk ∷ []))
    (map (λ chunk. chunk.items) (take l.chunk-index l.chunks))
