use Rattle.std.proofs.Common.{◌≡◌, map, take}
use Rattle.circle_round_trip.proofs.any_scheme.copies_of_rows.Given as goal

-- the copies so far are there
abbrev pub invariant-loop-matrix : goal.invariant-loop-matrix
invariant-loop-matrix g l = map (λ rows. map (λ v. v.items) rows.items) l.copies.items
    ≡ map (λ rows. map (λ v. v.items) rows.items) (take l.matrix-index l.matrices)
