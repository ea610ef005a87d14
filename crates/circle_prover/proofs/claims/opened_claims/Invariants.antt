use Rattle.std.proofs.Common.{◌≡◌, map, take, flat_map}
use Rattle.circle_commit.specs.DotProduct.{pairwise}
use Rattle.circle_transcript.specs.Claims.{claims_of}
use Rattle.circle_codewords.specs.Points.{coordinates_of}
use Rattle.circle_codewords.specs.Words.{claim_of}
use Rattle.circle_relation.specs.Taken.{point_taken}
use Rattle.circle_prover.proofs.claims.opened_claims.Given as goal

-- the claims on the matrices so far are there
abbrev pub invariant-loop-matrix : goal.invariant-loop-matrix
invariant-loop-matrix g l =
    claims_of l.claims.items
    ≡ flat_map (map (point_taken g.EF.Operations.ops))
    (map (λ m. pairwise (λ t v. claim_of t v.items) (coordinates_of m.points.now) m.values.now)
    (take l.matrix-index l.matrices))
