use Rattle.std.proofs.Common.{◌≡◌, map, take}
use Rattle.circle_commands.proofs.prove.CommittedInput.commitments.Given as goal

abbrev pub invariant-loop-batch : goal.invariant-loop-batch
invariant-loop-batch l =
    l.commitments.items ≡ map (λ b. b.commitment) (take l.batch-index l.batch-items)
