use Rattle.std.proofs.Common.{ℕ, ◌+◌, ◌<◌, get_or}
use Rattle.circle_air.specs.declared.node.Constraint.{Constraint}
use Rattle.circle_air.specs.declared.trace.TheConstants.{LANES}
use Rattle.circle_air.specs.Lanes.{HoldsInLane}
use Rattle.circle_air.proofs.block.BlockPlace.failing.Given as goal

abbrev pub invariant-loop-j : goal.invariant-loop-j
invariant-loop-j g l = (i : ℕ) (d : Constraint) → i < l.j →
    HoldsInLane g.F.Operations.ops LANES l.values
    l.self.height (l.self.start + l.lane) l.lane (get_or l.constraints i d)
