use Rattle.std.proofs.Common.{◌≡◌, map, take}
use Rattle.circle_point.specs.Point.{coordinates}
use Rattle.circle_domain.specs.Domain.{log_size, shift_of}
use Rattle.circle_domain.specs.Selectors.{vanishing_on}
use Rattle.circle_domain.proofs.row_selectors.vanishing_values.Given as goal

abbrev pub invariant-loop-point : goal.invariant-loop-point
invariant-loop-point g l =
    l.values.items ≡ map (λ p. vanishing_on g.F.Operations.ops (log_size l.fn.domain)
    (shift_of l.fn.domain) (coordinates p)) (take l.point-index l.points)
