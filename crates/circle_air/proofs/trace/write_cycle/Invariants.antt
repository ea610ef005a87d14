use Rattle.std.proofs.Common.{◌≡◌, ℕ, ◌+◌, ◌%◌, ◌<◌, length, get_or}
use Rattle.circle_air.proofs.trace.write_cycle.Given as goal

abbrev pub invariant-loop-entry : goal.invariant-loop-entry
invariant-loop-entry g l = record {
  at : l.at ≡ (l.first + l.entry-index) % length l.column;
  below : l.at < length l.column;
  written : (r : ℕ) (d : g.row.F.Denot) → r < l.entry-index
      → get_or l.lanes r d ≡ get_or l.column ((l.first + r) % length l.column) d;
}
