use Rattle.std.proofs.Common.{◌≡◌}
use Rattle.circle_domain.proofs.row_selectors.natural_points.Given as goal

abbrev pub invariant-loop-point : goal.invariant-loop-point
invariant-loop-point g l = l.points.items ≡ l.yielded
