use Rattle.std.proofs.Common.{ℕ, ◌+◌, ◌<◌, get_or}
use Rattle.circle_air.specs.declared.node.Constraint.{Constraint}
use Rattle.circle_air.specs.declared.trace.TheConstants.{LANES}
use Rattle.circle_air.specs.Lanes.{HoldsInLane}
use Rattle.circle_air.proofs.block.BlockPlace.is_clean.Given as goal

abbrev pub invariant-loop-constraint : goal.invariant-loop-constraint
invariant-loop-constraint g l = (j : ℕ) (d : Constraint) → j < l.constraint-index
    → (r : ℕ) → r < LANES → l.self.start + r < l.self.height
    → HoldsInLane g.F.Operations.ops LANES l.values l.self.height (l.self.start + r) r
    (get_or l.constraints j d)
