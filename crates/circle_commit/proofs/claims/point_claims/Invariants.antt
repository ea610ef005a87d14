use Rattle.std.proofs.Common.{◌≡◌, length, map, take, zip}
use Rattle.circle_commit.specs.Claims.{point_told}
use Rattle.circle_commit.proofs.claims.point_claims.Given as goal

-- the claims so far are there
abbrev pub invariant-loop-point : goal.invariant-loop-point
invariant-loop-point g l = map point_told l.claims.items
    ≡ map (λ p. (p.0, p.1.items))
    (take (length l.yielded) (zip l.fn.points.items l.fn.values.items))
