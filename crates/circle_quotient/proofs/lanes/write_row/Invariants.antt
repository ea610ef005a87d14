use Rattle.std.proofs.Common.{◌≡◌, slice_set}
use Rattle.circle_commit.proofs.Written.{written}
use Rattle.circle_commit.specs.DotProduct.{pairwise}
use Rattle.circle_commit.specs.PeriodicLdeTable.{columns_of}
use Rattle.circle_quotient.proofs.lanes.write_row.Given as goal

abbrev pub invariant-loop-c : goal.invariant-loop-c
invariant-loop-c g l =
    let old = columns_of l.fn.columns in
    columns_of l.columns
    ≡ written l.c (pairwise (λ column x. slice_set column l.lane x) old l.row) old
