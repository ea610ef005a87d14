use Rattle.std.proofs.Common.{◌≡◌, ◌++◌, take, flat_map}
use Rattle.circle_transcript.specs.Shape.{batch_layout}
use Rattle.circle_transcript.specs.ShapeOf.{batches_of}
use Rattle.circle_transcript.proofs.shape.put_batches.Given as goal

-- the batches so far are written
abbrev pub invariant-loop-batch : goal.invariant-loop-batch
invariant-loop-batch l = l.text.items ≡ l.initial.text.items
    ++ flat_map batch_layout (batches_of (take l.batch-index l.batches))
