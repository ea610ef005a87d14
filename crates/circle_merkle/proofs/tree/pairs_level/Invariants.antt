use Rattle.std.proofs.Common.{◌≡◌, map}
use Rattle.std.specs.List.{range_with_len}
use Rattle.sha2.specs.Sha256.{sha256}
use Rattle.circle_merkle.specs.Messages.{pair_digest}
use Rattle.circle_merkle.proofs.tree.pairs_level.Given as goal

abbrev pub invariant-loop-i : goal.invariant-loop-i
invariant-loop-i l = l.level.items ≡ map (pair_digest sha256 l.first l.pairs) (range_with_len 0 l.i)
