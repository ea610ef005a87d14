use Rattle.std.proofs.Common.{◌≡◌, ◌++◌, [], ◌∷◌}
use Rattle.circle_commit.specs.Mmcs.{opened_rows}
use Rattle.circle_commit.proofs.Written.{written}
use Rattle.circle_commit.specs.DotProduct.{pairwise}
use Rattle.circle_folding.specs.Chain.{asked_pairs}
use Rattle.circle_folding.proofs.query.push_query_pairs.Given as goal

abbrev pub invariant-loop-i : goal.invariant-loop-i
invariant-loop-i g l =
    opened_rows l.rows
    ≡ written l.i
    (pairwise (λ rs pair. rs ++ pair ∷ []) (opened_rows l.fn.rows)
    (asked_pairs l.bits l.indices l.values l.siblings)) (opened_rows l.fn.rows)
