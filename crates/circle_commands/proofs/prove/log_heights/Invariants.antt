use Rattle.std.proofs.Common.{◌≡◌, take}
use Rattle.circle_commands.specs.Proved.{logs_of}
use Rattle.circle_commands.proofs.prove.log_heights.Given as goal

abbrev pub invariant-loop-trace : goal.invariant-loop-trace
invariant-loop-trace l = l.logs.items ≡ logs_of (take l.trace-index l.traces)
