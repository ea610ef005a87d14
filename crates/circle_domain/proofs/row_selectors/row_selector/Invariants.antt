use Rattle.std.proofs.Common.{◌≡◌, take}
use Rattle.circle_point.specs.Point.{coordinates}
use Rattle.circle_commit.specs.DotProduct.{pairwise}
use Rattle.circle_domain.specs.Selectors.{zero_at}
use Rattle.circle_domain.proofs.row_selectors.row_selector.Given as goal

abbrev pub invariant-loop-i : goal.invariant-loop-i
invariant-loop-i g l =
    let k = g.F.Operations.ops in
    l.values.items
    ≡ take l.i
    (pairwise (λ z p. k.mul z (k.inv (zero_at k (coordinates l.row) (coordinates p))))
    l.vanishing l.points)
