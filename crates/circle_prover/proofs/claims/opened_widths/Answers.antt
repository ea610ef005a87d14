use Rattle.std.proofs.Common.{length, map, ap, ◌∙◌}
use Rattle.circle_commit.specs.Mmcs.{opened_rows}
use Rattle.circle_transcript.specs.ShapeOf.{matrices_of}
use Rattle.circle_prover.proofs.Requested.{parts-more}
use Rattle.circle_prover.proofs.claims.opened_widths.Goals as goal

pub loop-batch-preserved : goal.loop-batch-preserved
loop-batch-preserved g c =
    parts-more (λ b. map (λ m. map (λ w. length w) m) b) (λ batch. opened_rows batch.items)
    (λ b. matrices_of b.items) c.args.values.now c.loop-batch.batch-index c.batch-item.result
    c.loop-batch.widths.items c.push.new.self.items c.in_ok-batch_widths.field-0
    c.loop-batch-test.true c.batch-item.is c.in_ok-push.ensures.items
    (c.in_ok-batch_widths.ensures ∙ ap (λ ms. map (λ m. map (λ w. length w) m) (opened_rows ms))
    c.deref.ensures.value) c.loop-batch.invariant
