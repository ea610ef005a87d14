use Rattle.std.proofs.Common.{◌≡◌, ◌^◌}
use Rattle.circle_field.specs.Circle.{times}
use Rattle.circle_point.specs.Point.{coordinates}
use Rattle.circle_point.proofs.point.Point.repeated_double.Given as goal

abbrev pub invariant-loop : goal.invariant-loop
invariant-loop g l = coordinates l.point
    ≡ times g.F.Operations.ops (2 ^ l.counter) (coordinates l.fn.self)
