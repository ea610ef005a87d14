use Rattle.std.proofs.Common.{◌≡◌}
use Rattle.circle_merkle.specs.Messages.{row_digests}
use Rattle.circle_merkle.proofs.tree.rows_level.Given as goal

abbrev pub invariant-loop-i : goal.invariant-loop-i
invariant-loop-i g l = l.level.items ≡ row_digests g.T.ElementBytes.bytes l.matrices l.height l.i
