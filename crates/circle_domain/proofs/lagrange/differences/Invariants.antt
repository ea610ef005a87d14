use Rattle.std.proofs.Common.{◌≡◌, map, take}
use Rattle.circle_field.specs.Field.{sub}
use Rattle.circle_point.specs.Point.{coordinates}
use Rattle.circle_domain.proofs.lagrange.differences.Given as goal

abbrev pub invariant-loop-point : goal.invariant-loop-point
invariant-loop-point g l =
    l.differences.items ≡ map (λ p. sub g.EF.Operations.ops
    (g.EF.ExtensionField.embed (coordinates p).x) (coordinates l.at).x)
    (take l.point-index l.points)
