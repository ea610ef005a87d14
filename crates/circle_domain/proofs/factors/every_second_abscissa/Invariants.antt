use Rattle.std.proofs.Common.{◌≡◌, ◌++◌, ◌*◌, map, drop}
use Rattle.circle_field.specs.Circle.{Coordinates}
use Rattle.circle_domain.specs.Layers.{every_second}
use Rattle.circle_point.specs.Point.{coordinates}
use Rattle.circle_domain.proofs.factors.every_second_abscissa.Given as goal

abbrev pub invariant-loop-i : goal.invariant-loop-i
invariant-loop-i g l =
    let f = λ (p : Coordinates g.row.F.Denot). p.x in
    let points = map coordinates l.points in
    l.abscissas.items ++ map f (every_second (drop (2 * l.i) points)) ≡ map f (every_second points)
