use Rattle.std.proofs.Common.{◌≡◌, ◌*◌}
use Rattle.circle_merkle.specs.Messages.{row_digests}
use Rattle.circle_merkle.proofs.tree.add_sixteen_rows.Given as goal

abbrev pub invariant-loop-group : goal.invariant-loop-group
invariant-loop-group g l = l.level.items ≡ row_digests g.T.ElementBytes.bytes l.matrices l.height
    (16 * l.group)
