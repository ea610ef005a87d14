use Rattle.std.proofs.Common.{All, take}
use Rattle.circle_commands.specs.Traces.{HasTallRows}
use Rattle.circle_commands.proofs.prove.validate_batch.Given as goal

abbrev pub invariant-loop-trace : goal.invariant-loop-trace
invariant-loop-trace l = All (HasTallRows l.log_final_poly_len) (take l.trace-index l.batch)
