use Rattle.std.proofs.Common.{◌≡◌, length, map, replicate}
use Rattle.circle_commit.proofs.Written.{written}
use Rattle.circle_commit.specs.PeriodicLdeTable.{columns_of}
use Rattle.circle_quotient.proofs.sums.clear_all.Given as goal

abbrev pub invariant-loop-i : goal.invariant-loop-i
invariant-loop-i g l =
    let old = columns_of l.fn.lists in
    columns_of l.lists ≡ written l.i
    (map (λ entries. replicate (length entries) g.F.Operations.ops.zero) old) old
