use Rattle.std.proofs.Common.{◌≡◌, take}
use Rattle.circle_relation.specs.StatementOf.{batch_claims}
use Rattle.circle_transcript.specs.Claims.{claims_of}
use Rattle.circle_relation.specs.Taken.{claims_taken}
use Rattle.circle_verifier.proofs.replay.opening_claims.Given as goal

-- the claims of the batches so far are there
abbrev pub invariant-loop-batch : goal.invariant-loop-batch
invariant-loop-batch g l =
    claims_of l.claims.items
    ≡ claims_taken g.EF.Operations.ops (batch_claims (take l.batch-index l.batches))
