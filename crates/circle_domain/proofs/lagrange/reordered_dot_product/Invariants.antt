use Rattle.std.proofs.Common.{◌≡◌, map, take}
use Rattle.circle_commit.specs.DotProduct.{dot}
use Rattle.circle_domain.specs.Ordering.{reordered}
use Rattle.circle_domain.proofs.lagrange.reordered_dot_product.Given as goal

abbrev pub invariant-loop-i : goal.invariant-loop-i
invariant-loop-i g l =
    let values =
    map g.EF.ExtensionField.embed (reordered g.F.Operations.ops.zero l.log_n l.evals) in
    l.sum ≡ dot g.EF.Operations.ops (take l.i l.shares) (take l.i values)
