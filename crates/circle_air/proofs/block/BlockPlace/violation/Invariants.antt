use Rattle.std.proofs.Common.{ℕ, ◌+◌, ◌-◌, ◌<◌, ◌≤◌}
use Rattle.std.specs.Prelude.{All}
use Rattle.circle_air.specs.declared.trace.TheConstants.{LANES}
use Rattle.circle_air.specs.Lanes.{HoldsInLane}
use Rattle.circle_air.proofs.block.BlockPlace.violation.Given as goal

abbrev pub invariant-loop-lane : goal.invariant-loop-lane
invariant-loop-lane g l = (i : ℕ) → l.self.start ≤ i → i < l.self.start + l.lane
    → All (HoldsInLane g.F.Operations.ops LANES l.values l.self.height i (i - l.self.start))
    l.constraints
