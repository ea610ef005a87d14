use Rattle.std.proofs.Common.{◌≡◌, map, take}
use Rattle.circle_merkle.specs.Opening.{lowest_node}
use Rattle.circle_merkle.proofs.root.Opening.lowest.Given as goal

abbrev pub invariant-loop-position : goal.invariant-loop-position
invariant-loop-position g l = l.nodes.items ≡ map (lowest_node g.T.ElementBytes.bytes l.self)
    (take l.position-index l.firsts)
