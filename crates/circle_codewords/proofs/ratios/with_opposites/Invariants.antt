use Rattle.std.proofs.Common.{◌≡◌, map, take}
use Rattle.circle_point.specs.Point.{coordinates}
use Rattle.circle_domain.specs.Order.{with_opposites}
use Rattle.circle_codewords.proofs.ratios.with_opposites.Given as goal

abbrev pub invariant-loop-point : goal.invariant-loop-point
invariant-loop-point g l = map coordinates l.points.items
    ≡ with_opposites g.F.Operations.ops (map coordinates (take l.point-index l.first))
