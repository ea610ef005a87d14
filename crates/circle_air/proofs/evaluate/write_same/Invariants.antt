use Rattle.std.proofs.Common.{◌≡◌, ℕ, ◌<◌, get_or}
use Rattle.circle_air.proofs.evaluate.write_same.Given as goal

abbrev pub invariant-loop-entry : goal.invariant-loop-entry
invariant-loop-entry g l = (r : ℕ) (d : g.row.E.Denot) → r < l.entry-index
    → get_or l.lanes r d ≡ l.value
