use Rattle.std.proofs.Common.{◌≡◌, ◌++◌, map, take}
use Rattle.circle_relation.specs.StatementOf.{point_claim}
use Rattle.circle_transcript.specs.Claims.{claims_of}
use Rattle.circle_relation.specs.Taken.{point_taken}
use Rattle.circle_verifier.proofs.replay.push_matrix.Given as goal

-- the claims so far are there
abbrev pub invariant-loop-opening : goal.invariant-loop-opening
invariant-loop-opening g l =
    claims_of l.claims.items ≡ claims_of l.initial.claims.items
    ++ map (point_taken g.EF.Operations.ops) (map point_claim (take l.opening-index l.points))
