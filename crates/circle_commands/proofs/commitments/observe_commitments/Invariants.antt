use Rattle.std.proofs.Common.{◌≡◌, drop, map}
use Rattle.circle_challenger.specs.Sha256Challenger.{state_of}
use Rattle.circle_commands.specs.Commitments.{after_commitments}
use Rattle.circle_commands.proofs.commitments.observe_commitments.Given as goal

-- what is left to absorb leads to the state that all lead to
abbrev pub invariant-loop-batch : goal.invariant-loop-batch
invariant-loop-batch g l =
    let commitments = map g.B.HasCommitment.commitment_of in
    after_commitments (state_of l.challenger) (commitments (drop l.batch-index l.batches))
    ≡ after_commitments (state_of l.fn.challenger) (commitments l.batches)
