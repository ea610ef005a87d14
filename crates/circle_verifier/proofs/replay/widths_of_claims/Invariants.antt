use Rattle.std.proofs.Common.{◌≡◌, take}
use Rattle.circle_relation.specs.StatementOf.{batch_claims}
use Rattle.circle_transcript.specs.ShapeOf.{batches_of}
use Rattle.circle_relation.specs.Taken.{widths_by}
use Rattle.circle_verifier.proofs.replay.widths_of_claims.Given as goal

-- the widths of the batches so far are there
abbrev pub invariant-loop-batch : goal.invariant-loop-batch
invariant-loop-batch g l =
    batches_of l.widths.items ≡ widths_by (batch_claims (take l.batch-index l.claims))
