use Rattle.std.proofs.Common.{◌≡◌, ◌∷◌, [], map, replicate}
use Rattle.circle_stark.proofs.opening.points_of_chunks.Given as goal

abbrev pub invariant-loop-chunk : goal.invariant-loop-chunk
invariant-loop-chunk g l = map (λ v. v.items) l.points.items ≡ replicate l._chunk (l.point ∷ [])
