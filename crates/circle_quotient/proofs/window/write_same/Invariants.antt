use Rattle.std.proofs.Common.{◌≡◌, ℕ, ◌<◌, get_or}
use Rattle.circle_quotient.proofs.window.write_same.Given as goal

abbrev pub invariant-loop-lane : goal.invariant-loop-lane
invariant-loop-lane g l =
    (r : ℕ) (d : g.row.E.Denot) → r < l.lane-index → get_or l.lanes r d ≡ l.value
