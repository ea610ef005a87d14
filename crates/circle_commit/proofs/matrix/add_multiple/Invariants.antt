use Rattle.std.proofs.Common.{◌≡◌}
use Rattle.circle_commit.proofs.Written.{written}
use Rattle.circle_commit.specs.DotProduct.{pairwise}
use Rattle.circle_commit.proofs.matrix.add_multiple.Given as goal

abbrev pub invariant-loop-i : goal.invariant-loop-i
invariant-loop-i g l =
    let f = λ (a : g.row.EF.Denot) (x : g.row.F.Denot). g.EF.Operations.ops.add a
    (g.EF.Operations.ops.mul (g.EF.ExtensionField.embed x) l.weight) in
    l.sums ≡ written l.i (pairwise f l.fn.sums l.row) l.fn.sums
