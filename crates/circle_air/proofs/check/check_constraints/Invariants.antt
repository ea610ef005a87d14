use Rattle.std.proofs.Common.{◌≡◌, ℕ, ◌*◌, ◌<◌, ◌≤◌, length}
use Rattle.std.specs.Prelude.{All}
use Rattle.circle_air.specs.declared.trace.TheConstants.{LANES}
use Rattle.circle_air.specs.Air.{air_of}
use Rattle.circle_air.specs.Satisfies.{HoldsAt}
use Rattle.circle_air.proofs.check.check_constraints.Given as goal

abbrev pub invariant-loop-block : goal.invariant-loop-block
invariant-loop-block g l =
    let p = air_of l.air in
    let rows = g.M.Matrix.rows l.rows in record {
      room : length l.values ≡ length p.nodes * LANES;
      height : l.height ≡ length rows;
      holds : (i : ℕ) → 0 ≤ i → i < l.block * LANES → i < length rows
          → All (HoldsAt g.F.Operations.ops p rows l.public_values i) p.constraints;
    }
