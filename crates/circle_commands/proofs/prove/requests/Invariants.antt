use Rattle.std.proofs.Common.{take}
use Rattle.std.specs.List.{AllZip}
use Rattle.circle_commands.specs.Proved.{IsRequested}
use Rattle.circle_commands.proofs.prove.requests.Given as goal

abbrev pub invariant-loop-batch : goal.invariant-loop-batch
invariant-loop-batch l = AllZip IsRequested (take l.batch-index l.committed) l.requests.items
