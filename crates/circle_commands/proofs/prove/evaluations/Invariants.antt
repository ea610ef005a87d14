use Rattle.std.proofs.Common.{take}
use Rattle.std.specs.List.{AllZip}
use Rattle.circle_commands.specs.Proved.{ArePlaced}
use Rattle.circle_commands.proofs.prove.evaluations.Given as goal

abbrev pub invariant-loop-trace : goal.invariant-loop-trace
invariant-loop-trace l = AllZip (λ t e. ArePlaced t.rows.items e) (take l.trace-index l.traces)
    l.evaluations.items
