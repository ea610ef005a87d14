use Rattle.std.proofs.Common.{◌≡◌, map, take}
use Rattle.circle_field.specs.Circle.{lifted}
use Rattle.circle_point.specs.Point.{coordinates}
use Rattle.circle_domain.specs.Lagrange.{shares}
use Rattle.circle_domain.proofs.lagrange.shares_of.Given as goal

abbrev pub invariant-loop-i : goal.invariant-loop-i
invariant-loop-i g l =
    l.shares.items ≡ shares g.EF.Operations.ops (coordinates l.at)
    (map (λ p. lifted g.EF.ExtensionField.embed (coordinates p)) (take l.i l.points))
