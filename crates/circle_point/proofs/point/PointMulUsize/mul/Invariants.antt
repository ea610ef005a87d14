use Rattle.std.proofs.Common.{◌≡◌}
use Rattle.circle_field.specs.Circle.{plus, times}
use Rattle.circle_point.specs.Point.{coordinates}
use Rattle.circle_point.proofs.point.PointMulUsize.mul.Given as goal

abbrev pub invariant-loop-rest : goal.invariant-loop-rest
invariant-loop-rest g l =
    let k = g.F.Operations.ops in
    plus k (coordinates l.result) (times k l.rest (coordinates l.multiple))
    ≡ times k l.fn.rhs (coordinates l.fn.self)

abbrev pub decreases-loop-rest : goal.decreases-loop-rest
decreases-loop-rest g l = l.rest
