use Rattle.std.proofs.Common.{◌≡◌, map, take}
use Rattle.circle_point.specs.Point.{coordinates}
use Rattle.circle_folding.proofs.interpolation.abscissas.Given as goal

abbrev pub invariant-loop-point : goal.invariant-loop-point
invariant-loop-point g l = l.abscissas.items
    ≡ map (λ p. (coordinates p).x) (take l.point-index l.points)
