use Rattle.std.proofs.Common.{◌≡◌, ◌+◌, ◌/◌, ◌^◌}
use Rattle.circle_point.specs.Basis.{doubled_x}
use Rattle.circle_commit.proofs.Written.{written}
use Rattle.circle_commit.specs.DotProduct.{pairwise}
use Rattle.circle_folding.proofs.Queries.{signed}
use Rattle.circle_folding.proofs.query.next_x_twiddles.Given as goal

abbrev pub invariant-loop-i : goal.invariant-loop-i
invariant-loop-i g l =
    let k = g.F.Operations.ops in
    l.twiddles
    ≡ written l.i
    (pairwise (λ q t. signed k (q / 2 ^ (l.round + 2)) (doubled_x k t)) l.indices l.fn.twiddles)
    l.fn.twiddles
