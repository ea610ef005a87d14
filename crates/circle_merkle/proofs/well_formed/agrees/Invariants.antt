use Rattle.std.proofs.Common.{ℕ, ◌+◌, ◌<◌, ◌/◌, length, get_or}
use Rattle.circle_commit.specs.Mmcs.{heights, opened_rows}
use Rattle.circle_merkle.specs.SamePosition.{NeighborsAgree}
use Rattle.circle_merkle.proofs.well_formed.agrees.Given as goal

abbrev pub invariant-loop-j : goal.invariant-loop-j
invariant-loop-j g l = (i : ℕ) → i < l.j → (k : ℕ) → k + 1 < length l.order →
    NeighborsAgree l.order (opened_rows l.opened) (l.top / get_or (heights l.dimensions) i 0) i k
