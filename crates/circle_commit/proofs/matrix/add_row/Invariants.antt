use Rattle.std.proofs.Common.{◌≡◌, map, slice_index_or}
use Rattle.circle_commit.proofs.Written.{written}
use Rattle.circle_commit.specs.DotProduct.{pairwise}
use Rattle.circle_commit.proofs.matrix.add_row.Given as goal

abbrev pub invariant-loop-p : goal.invariant-loop-p
invariant-loop-p g l =
    let k = g.EF.Operations.ops in
    let old = map (λ s. s.items) l.fn.sums in
    map (λ s. s.items) l.sums
    ≡ written l.p
    (pairwise
    (λ s ws. pairwise
    (λ a x. k.add a (k.mul (g.EF.ExtensionField.embed x) (slice_index_or ws.now l.r k.zero))) s
    l.row) old l.weights) old
