use Rattle.std.proofs.Common.{◌≡◌, map, take}
use Rattle.circle_commit.specs.DotProduct.{dot}
use Rattle.circle_quotient.proofs.recomposition.chunk_values.Given as goal

abbrev pub invariant-loop-chunk : goal.invariant-loop-chunk
invariant-loop-chunk g l = l.made.items
    ≡ map (λ chunk. dot g.E.Operations.ops l.basis chunk.items) (take l.chunk-index l.chunks)
