use Rattle.std.proofs.Common.{◌≡◌, ◌-◌, map}
use Rattle.circle_domain.specs.Domain.{shift_of}
use Rattle.circle_domain.specs.Order.{coset}
use Rattle.circle_point.specs.Point.{coordinates}
use Rattle.circle_domain.proofs.ordering.first_points.Given as goal

abbrev pub invariant-loop-log_order : goal.invariant-loop-log_order
invariant-loop-log_order g l = map coordinates l.points.items
    ≡ coset g.F.Operations.ops g.F.ComplexExtendable.generators (l.log_order - 1)
    (shift_of l.fn.domain)
