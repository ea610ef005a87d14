use Rattle.std.proofs.Common.{◌≡◌, ◌+◌, ◌++◌, ◌≤◌, length}
use Rattle.circle_merkle.specs.Walk.{parents_of, siblings_of}
use Rattle.circle_merkle.proofs.positions.climb.Given as goal

abbrev pub invariant-loop-position : goal.invariant-loop-position
invariant-loop-position l = record {
  parents : l.parents.items ++ parents_of l.rest ≡ parents_of l.known;
  count : l.count + length (siblings_of l.rest) ≡ length (siblings_of l.known);
  bound : l.count + length l.rest ≤ length l.known;
}

abbrev pub decreases-loop-position : goal.decreases-loop-position
decreases-loop-position l = length l.rest
