use Rattle.std.proofs.Common.{◌≡◌, length, map, take}
use Rattle.circle_commit.specs.Mmcs.{opened_rows}
use Rattle.circle_commit.specs.DotProduct.{pairwise}
use Rattle.circle_codewords.specs.Openings.{siblings_at}
use Rattle.circle_prover.proofs.openings.all_siblings.Given as goal

-- those of the queries so far
abbrev pub invariant-loop-index : goal.invariant-loop-index
invariant-loop-index g l =
    map (λ s. s.items) l.siblings.items
    ≡ take (length l.yielded)
    (pairwise (siblings_at g.EF.Operations.ops.zero l.log_max_height l.heights) l.indices
    (opened_rows l.rows))
