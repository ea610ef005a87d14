use Rattle.std.proofs.Common.{◌≡◌, ◌++◌, map, drop}
use Rattle.circle_commit.specs.Mmcs.{opened_rows}
use Rattle.circle_relation.specs.StatementOf.{matrix_claims}
use Rattle.circle_verifier.specs.Rows.{placed, rows_claimed, rows_at}
use Rattle.circle_verifier.proofs.reduced.push_rows.Given as goal

-- with the rows of the matrices behind, all are there
abbrev pub invariant-loop-i : goal.invariant-loop-i
invariant-loop-i g l =
    let entries = opened_rows l.opened in
    let ms = matrix_claims l.matrices in
    map rows_at l.rows.items ++ rows_claimed l.log_blowup (placed entries l.i (drop l.i ms))
    ≡ map rows_at l.initial.rows.items ++ rows_claimed l.log_blowup (placed entries 0 ms)
