use Rattle.std.proofs.Common.{◌≡◌, ◌∷◌, [], map}
use Rattle.circle_stark.proofs.opening.chunk_values.Given as goal

-- the values so far are those of the chunks so far
abbrev pub invariant-loop-chunk : goal.invariant-loop-chunk
invariant-loop-chunk g l =
    map (λ chunk. map (λ v. v.items) chunk.items) l.yielded
    ≡ map (λ v. v.items ∷ []) l.values.items
