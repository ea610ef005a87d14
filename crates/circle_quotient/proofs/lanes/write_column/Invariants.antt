use Rattle.std.proofs.Common.{◌≡◌, ℕ, ◌<◌, get_or}
use Rattle.circle_air.specs.Values.{entry}
use Rattle.circle_quotient.proofs.lanes.write_column.Given as goal

abbrev pub invariant-loop-r : goal.invariant-loop-r
invariant-loop-r g l = (q : ℕ) (d : g.row.F.Denot) → q < l.r →
    get_or l.lanes q d ≡ entry g.F.Operations.ops l.column q
