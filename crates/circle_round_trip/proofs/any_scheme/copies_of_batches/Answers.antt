use Rattle.std.proofs.Common.{◌∙◌, refl, ap}
use Rattle.circle_commit.specs.Mmcs.{opened_rows}
use Rattle.circle_commit.proofs.Lists.{mapped-more}
use Rattle.circle_round_trip.proofs.any_scheme.copies_of_batches.Goals as goal

pub loop-batch-preserved : goal.loop-batch-preserved
loop-batch-preserved g c =
    mapped-more (λ rows. opened_rows rows.items) (λ rows. opened_rows rows.items) c.args.batches.now
    c.loop-batch.batch-index _ c.batch-item.result c.loop-batch.copies.items
    c.push.new.self.items c.in_ok-copies_of_rows.field-0
    refl c.loop-batch-test.true c.batch-item.is c.in_ok-push.ensures.items
    (c.in_ok-copies_of_rows.ensures ∙ ap opened_rows c.deref.ensures.value)
    c.loop-batch.invariant
