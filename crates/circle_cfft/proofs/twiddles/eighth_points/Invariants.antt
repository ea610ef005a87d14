use Rattle.std.proofs.Common.{◌≡◌, ◌-◌, map}
use Rattle.circle_domain.specs.Domain.{shift_of}
use Rattle.circle_domain.specs.Layers.{block_starts}
use Rattle.circle_point.specs.Point.{coordinates}
use Rattle.circle_cfft.proofs.twiddles.eighth_points.Given as goal

abbrev pub invariant-loop-log_order : goal.invariant-loop-log_order
invariant-loop-log_order g l = map coordinates l.points.items
    ≡ block_starts g.F.Operations.ops g.F.ComplexExtendable.generators (l.log_order - 3) 3
    (shift_of l.fn.domain)
