use Rattle.std.proofs.Common.{◌≡◌, map, take}
use Rattle.circle_point.specs.Point.{coordinates}
use Rattle.circle_domain.proofs.factors.ordinates.Given as goal

abbrev pub invariant-loop-point : goal.invariant-loop-point
invariant-loop-point g l = l.ordinates.items
    ≡ map (λ p. (coordinates p).y) (take l.point-index l.points)
