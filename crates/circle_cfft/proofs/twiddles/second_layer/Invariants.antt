use Rattle.std.proofs.Common.{◌≡◌, ◌++◌, map, drop}
use Rattle.circle_point.specs.Point.{coordinates}
use Rattle.circle_cfft.proofs.QuarterTurns.{with_turns}
use Rattle.circle_cfft.proofs.twiddles.second_layer.Given as goal

abbrev pub invariant-loop-point : goal.invariant-loop-point
invariant-loop-point g l =
    let own = with_turns g.F.Operations.ops (g.F.ComplexExtendable.generators 2).y in
    let points = map coordinates l.point-items in
    l.factors.items ++ own (drop l.point-index points) ≡ own points
