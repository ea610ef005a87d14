use Rattle.std.proofs.Common.{◌≡◌, ℕ, ◌-◌, ◌/◌, ◌^◌, map, take}
use Rattle.circle_field.specs.Circle.{Coordinates}
use Rattle.circle_point.specs.Point.{coordinates}
use Rattle.circle_commit.specs.DotProduct.{pairwise}
use Rattle.circle_folding.proofs.Queries.{signed}
use Rattle.circle_folding.proofs.query.first_layer_twiddles.Given as goal

abbrev pub invariant-loop-i : goal.invariant-loop-i
invariant-loop-i g l =
    l.twiddles.items
    ≡ take l.i
    (pairwise
    (λ (q : ℕ) (p : Coordinates g.row.F.Denot). signed g.F.Operations.ops
    (q / 2 ^ (l.log_max_height - l.log_height)) p.y) l.indices (map coordinates l.points))
