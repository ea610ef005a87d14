use Rattle.std.proofs.Common.{◌≡◌, ℕ, ◌<◌, get_or, length, map}
use Rattle.circle_merkle.proofs.well_formed.fit.Given as goal

abbrev pub invariant-loop-j : goal.invariant-loop-j
invariant-loop-j g l = (k : ℕ) → k < l.j → get_or (map length (map (λ row. row.items) l.rows)) k 0
    ≡ get_or (map (λ dim. dim.width) l.dimensions) k 0
