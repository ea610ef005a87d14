use Rattle.std.proofs.Common.{◌-◌}
use Rattle.circle_merkle.specs.Messages.{pair_message}
use Rattle.circle_merkle.proofs.Padded.{AreMessages}
use Rattle.circle_merkle.proofs.messages.sixteen_pairs.Given as goal

abbrev pub invariant-loop-i : goal.invariant-loop-i
invariant-loop-i l = AreMessages (pair_message l.first l.pairs) 128 l.from (l.i - l.from)
    l.messages.items
