use Rattle.std.proofs.Common.{◌≡◌, ◌*◌, map}
use Rattle.std.specs.List.{range_with_len}
use Rattle.sha2.specs.Sha256.{sha256}
use Rattle.circle_merkle.specs.Messages.{pair_digest}
use Rattle.circle_merkle.proofs.tree.add_sixteen_pairs.Given as goal

abbrev pub invariant-loop-group : goal.invariant-loop-group
invariant-loop-group l =
    l.level.items ≡ map (pair_digest sha256 l.first l.pairs) (range_with_len 0 (16 * l.group))
