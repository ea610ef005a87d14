use Rattle.std.proofs.Common.{◌≡◌, drop, map}
use Rattle.circle_relation.specs.TestsInOrder.{answer}
use Rattle.circle_stark.specs.Refusals.{chunk_tests}
use Rattle.circle_stark.specs.declared.error.StarkError.{StarkError}
use Rattle.circle_stark.specs.declared.error.StarkError.TheVariants.{QuotientChunkLength}
use Rattle.circle_stark.proofs.statement.validate_chunks.Given as goal

-- what is returned is the answer to the chunks that are left
abbrev pub invariant-loop-chunk : goal.invariant-loop-chunk
invariant-loop-chunk g l =
    answer {A = Unit {0}} {E = StarkError g.row.E.Denot}
    (chunk_tests QuotientChunkLength l.expected l.chunk
    (map (λ chunk. chunk.items) (drop l.chunk l.chunks))) (tt {0})
    ≡ answer
    (chunk_tests QuotientChunkLength l.expected 0 (map (λ chunk. chunk.items) l.chunks)) (tt {0})
