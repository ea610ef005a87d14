use Rattle.std.proofs.Common.{◌≡◌, ◌++◌, length, map, take}
use Rattle.circle_commit.specs.DotProduct.{pairwise}
use Rattle.circle_transcript.specs.Claims.{claims_of}
use Rattle.circle_codewords.specs.Points.{coordinates_of}
use Rattle.circle_codewords.specs.Requests.{lists_of}
use Rattle.circle_codewords.specs.Words.{claim_of}
use Rattle.circle_relation.specs.Taken.{point_taken}
use Rattle.circle_prover.proofs.claims.append_claims.Given as goal

-- the claims so far are there
abbrev pub invariant-loop-point : goal.invariant-loop-point
invariant-loop-point g l =
    claims_of l.claims.items ≡ claims_of l.initial.claims.items
    ++ take (length l.yielded)
    (map (point_taken g.EF.Operations.ops)
    (pairwise claim_of (coordinates_of l.points) (lists_of l.values)))
