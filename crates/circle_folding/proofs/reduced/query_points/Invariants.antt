use Rattle.std.proofs.Common.{◌≡◌, map, take}
use Rattle.circle_point.specs.Point.{coordinates}
use Rattle.circle_folding.specs.Queries.{query_point}
use Rattle.circle_folding.proofs.reduced.query_points.Given as goal

abbrev pub invariant-loop-query : goal.invariant-loop-query
invariant-loop-query g l =
    map coordinates l.points.items
    ≡ map
    (query_point g.F.Operations.ops g.F.ComplexExtendable.generators l.log_height
    l.log_max_height) (take l.query-index l.queries)
