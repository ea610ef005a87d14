use Rattle.std.proofs.Common.{take, All}
use Rattle.circle_round_trip.specs.RoundTrip.{HasPoints}
use Rattle.p3_circle.specs.Committing.{HaveRowsForPoints}
use Rattle.test_open.proofs.accepted.can_all_be_opened.Given as goal

abbrev pub invariant-loop-batch : goal.invariant-loop-batch
invariant-loop-batch l =
    All (λ b. HaveRowsForPoints b.evaluations.items) (take l.batch-index l.batches) ×
    All HasPoints (take l.batch-index l.batches)
