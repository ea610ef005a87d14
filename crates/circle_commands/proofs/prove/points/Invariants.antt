use Rattle.std.proofs.Common.{◌≡◌, take}
use Rattle.circle_codewords.specs.Requests.{lists_of}
use Rattle.circle_commands.specs.Proved.{points_of}
use Rattle.circle_commands.proofs.prove.points.Given as goal

abbrev pub invariant-loop-trace : goal.invariant-loop-trace
invariant-loop-trace l = lists_of l.points.items ≡ points_of (take l.trace-index l.traces)
