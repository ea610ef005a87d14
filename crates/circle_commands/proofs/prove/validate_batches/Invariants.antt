use Rattle.std.proofs.Common.{take}
use Rattle.circle_commands.specs.Traces.{AreTall}
use Rattle.circle_commands.proofs.prove.validate_batches.Given as goal

abbrev pub invariant-loop-batch : goal.invariant-loop-batch
invariant-loop-batch l = AreTall l.log_final_poly_len (take l.batch-index l.batches)
