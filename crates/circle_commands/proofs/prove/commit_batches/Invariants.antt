use Rattle.std.proofs.Common.{take}
use Rattle.circle_commands.specs.Proved.{AreCommitted}
use Rattle.circle_commands.proofs.prove.commit_batches.Given as goal

abbrev pub invariant-loop-batch : goal.invariant-loop-batch
invariant-loop-batch l =
    AreCommitted l.scheme.mmcs l.scheme.fri_params.log_blowup (take l.batch-index l.batches)
    l.committed.items
