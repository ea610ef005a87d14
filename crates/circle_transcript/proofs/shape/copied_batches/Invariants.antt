use Rattle.std.proofs.Common.{◌≡◌, take}
use Rattle.circle_transcript.specs.ShapeOf.{batches_of}
use Rattle.circle_transcript.proofs.shape.copied_batches.Given as goal

-- the batches so far are copied
abbrev pub invariant-loop-batch : goal.invariant-loop-batch
invariant-loop-batch l = batches_of l.copies.items ≡ batches_of (take l.batch-index l.batches)
