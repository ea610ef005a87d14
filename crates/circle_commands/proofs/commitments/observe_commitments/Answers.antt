use Rattle.std.proofs.Common.{refl, ap, ◌∙◌}
use Rattle.circle_challenger.specs.Sha256Challenger.{state_of}
use Rattle.circle_challenger.specs.Sponge.{absorbed}
use Rattle.circle_commands.proofs.Absorbing.{one_more, all_absorbed}
use Rattle.circle_commands.proofs.commitments.observe_commitments.Goals as goal

pub loop-batch-init : goal.loop-batch-init
loop-batch-init g c = refl

pub loop-batch-preserved : goal.loop-batch-preserved
loop-batch-preserved g c =
    one_more g.B.HasCommitment.commitment_of (state_of c.loop-batch.challenger)
    (state_of c.observe.new.self) c.args.batches.now c.loop-batch.batch-index c.batch-item.result
    c.loop-batch-test.true c.batch-item.is
    (c.observe.ensures
    ∙ ap (absorbed (state_of c.loop-batch.challenger)) c.commitment.ensures)
    ∙ c.loop-batch.invariant

pub returns : goal.returns
returns g c =
    all_absorbed g.B.HasCommitment.commitment_of (state_of c.loop-batch.challenger)
    c.args.batches.now c.loop-batch.batch-index c.loop-batch-test.false
    ∙ c.loop-batch.invariant
