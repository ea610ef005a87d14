use Rattle.std.proofs.Common.{◌≡◌, length, map, take, zip}
use Rattle.circle_commit.specs.Claims.{matrix_claimed, matrix_told}
use Rattle.circle_commit.proofs.claims.matrix_claims.Given as goal

-- the claims so far are there
abbrev pub invariant-loop-domain : goal.invariant-loop-domain
invariant-loop-domain g l =
    map matrix_told l.claims.items
    ≡ map (λ t. matrix_claimed (t.0.0, t.0.1.items) (map (λ v. v.items) t.1.items))
    (take (length l.yielded) (zip (zip l.fn.domains.items l.fn.points.items) l.fn.values.items))
