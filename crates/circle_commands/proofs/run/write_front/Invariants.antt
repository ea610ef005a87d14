use Rattle.circle_commands.proofs.Written.{HasFront}
use Rattle.circle_commands.proofs.run.write_front.Given as goal

abbrev pub invariant-loop : goal.invariant-loop
invariant-loop g l = HasFront (g.W.Write.contents l.initial.output)
    (g.W.Write.contents l.output) l.bytes l.written
