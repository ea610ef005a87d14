use Rattle.std.proofs.Common.{◌≡◌, map, take}
use Rattle.circle_round_trip.proofs.any_scheme.copies_of.Given as goal

-- the copies so far are there
abbrev pub invariant-loop-vector : goal.invariant-loop-vector
invariant-loop-vector g l = map (λ v. v.items) l.copies.items
    ≡ map (λ v. v.items) (take l.vector-index l.vectors)
