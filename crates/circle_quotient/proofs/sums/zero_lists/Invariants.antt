use Rattle.circle_quotient.specs.Lanes.{HaveLanes}
use Rattle.circle_quotient.proofs.sums.zero_lists.Given as goal

abbrev pub invariant-loop : goal.invariant-loop
invariant-loop g l = HaveLanes l.counter l.lanes l.made.items
