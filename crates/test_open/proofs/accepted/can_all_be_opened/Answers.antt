use Rattle.std.proofs.Common.{◌∙◌, refl, subst, All}
use Rattle.std.proofs.lemmas.List.{take_all}
use Rattle.std.proofs.lemmas.List.Elements.{All-more}
use Rattle.circle_round_trip.specs.RoundTrip.{HasPoints}
use Rattle.p3_circle.specs.Committing.{HaveRowsForPoints}
use Rattle.test_open.proofs.accepted.can_all_be_opened.Goals as goal

pub loop-batch-preserved : goal.loop-batch-preserved
loop-batch-preserved c =
    let b = c.batch-item.result in
    let yes = c.can_be_opened.ensures in (
      All-more (λ b. HaveRowsForPoints b.evaluations.items) c.args.batches.now
          c.loop-batch.batch-index b c.loop-batch-test.true c.loop-batch.invariant.0
          (subst (λ b. HaveRowsForPoints b.evaluations.items) c.batch-item.is
          (c.if-not-can_be_opened.ensures.rows refl)),
      All-more HasPoints c.args.batches.now c.loop-batch.batch-index b c.loop-batch-test.true
          c.loop-batch.invariant.1
          (subst HasPoints c.batch-item.is (c.if-not-can_be_opened.ensures.points refl)),
    )

pub returns : goal.returns
returns c =
    let all = take_all c.loop-batch.batch-index c.args.batches.now c.loop-batch-test.false in
    record {
      rows = λ _ list same. subst (All (λ b. HaveRowsForPoints b.evaluations.items)) (all ∙ same)
          c.loop-batch.invariant.0;
      points = λ _ list same. subst (All HasPoints) (all ∙ same) c.loop-batch.invariant.1;
    }
