use Rattle.std.proofs.Common.{ℕ, subst, sym}
use Rattle.circle_commands.proofs.Written.{HasFront, front-kept, front-more}
use Rattle.circle_commands.proofs.run.write_front.Goals as goal
use Rattle.circle_commands.proofs.run.write_front.Goals.{in-Ok, in-Err+else-ne}

pub loop-preserved : goal.loop-preserved
loop-preserved g c =
    let holds = HasFront (g.W.Write.contents c.args.output.now)
    (g.W.Write.contents c.write.new.self) c.args.bytes.now in
    elim c.match-write.branch [
      | in-Ok w ↦ subst holds (sym w.written-is)
          (front-more _ _ _ c.args.bytes.now c.loop.written c.loop.invariant w.in-Ok.more
          w.in-Ok.ensures.bound w.in-Ok.ensures.bytes)
      | in-Err+else-ne w ↦ subst holds (sym w.written-is)
          (front-kept _ _ _ c.args.bytes.now c.loop.written c.loop.invariant
          w.in-Err.ensures.bytes)
    ]
