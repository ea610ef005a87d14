use Rattle.std.proofs.Common.{◌≡◌, ◌≤◌, ◌++◌, length, drop}
use Rattle.circle_merkle.specs.Walk.{siblings_of}
use Rattle.circle_merkle.specs.Climb.{climbed, positions_of}
use Rattle.circle_merkle.specs.Opening.{parent_in}
use Rattle.circle_merkle.proofs.root.Opening.climb.Given as goal

abbrev pub invariant-loop-node : goal.invariant-loop-node
invariant-loop-node g l = record {
  enough : length (siblings_of (positions_of l.rest)) ≤ length l.given;
  parents : l.parents.items ++ climbed (parent_in g.T.ElementBytes.bytes l.self l.level) l.rest
      l.given ≡ climbed (parent_in g.T.ElementBytes.bytes l.self l.level) l.nodes l.initial.given;
  left : drop (length (siblings_of (positions_of l.rest))) l.given
      ≡ drop (length (siblings_of (positions_of l.nodes))) l.initial.given;
}

abbrev pub decreases-loop-node : goal.decreases-loop-node
decreases-loop-node g l = length l.rest
