use Rattle.std.proofs.Common.{◌≡◌, ℕ, ◌+◌, ◌%◌, ◌<◌, length, get_or}
use Rattle.circle_air.specs.Values.{entry}
use Rattle.circle_quotient.proofs.lanes.write_cycle.Given as goal

abbrev pub invariant-loop-lane : goal.invariant-loop-lane
invariant-loop-lane g l = record {
  at : l.at ≡ (l.first + l.lane-index) % length l.column;
  below : l.at < length l.column;
  written : (r : ℕ) (d : g.row.F.Denot) → r < l.lane-index → get_or l.lanes r d
      ≡ entry g.F.Operations.ops l.column ((l.first + r) % length l.column);
}
