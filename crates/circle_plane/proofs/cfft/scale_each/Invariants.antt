use Rattle.std.proofs.Common.{◌≡◌, map}
use Rattle.circle_commit.proofs.Written.{written}
use Rattle.circle_commit.specs.DotProduct.{pairwise}
use Rattle.circle_plane.proofs.cfft.scale_each.Given as goal

abbrev pub invariant-loop-i : goal.invariant-loop-i
invariant-loop-i g l =
    let old = map (λ v. v.items) l.fn.values in
    map (λ v. v.items) l.values
    ≡ written l.i
    (pairwise (λ found w. map (λ a. g.EF.Operations.ops.mul a w.now.scale) found) old l.weights)
    old
