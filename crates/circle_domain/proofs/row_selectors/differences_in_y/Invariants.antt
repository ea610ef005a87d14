use Rattle.std.proofs.Common.{◌≡◌, map, take}
use Rattle.circle_field.specs.Circle.{plus, opposite}
use Rattle.circle_point.specs.Point.{coordinates}
use Rattle.circle_domain.proofs.row_selectors.differences_in_y.Given as goal

abbrev pub invariant-loop-point : goal.invariant-loop-point
invariant-loop-point g l =
    let k = g.F.Operations.ops in
    l.differences.items ≡ map (λ p. (plus k (coordinates p) (opposite k (coordinates l.row))).y)
    (take l.point-index l.points)
