use Rattle.std.proofs.Common.{ℕ, ◌+◌, ◌<◌}
use Rattle.circle_commit.specs.Mmcs.{opened_rows}
use Rattle.circle_merkle.specs.SamePosition.{NeighborsAgree}
use Rattle.circle_merkle.proofs.well_formed.column_agrees.Given as goal

abbrev pub invariant-loop-k : goal.invariant-loop-k
invariant-loop-k g l = (i : ℕ) → i + 1 < l.k →
    NeighborsAgree l.order (opened_rows l.opened) l.divisor l.j i
