use Rattle.std.proofs.Common.{◌≡◌, length, map, take}
use Rattle.circle_relation.specs.StatementOf.{point_claim}
use Rattle.circle_verifier.proofs.replay.widths_of_matrix.Given as goal

-- the widths so far are there
abbrev pub invariant-loop-point : goal.invariant-loop-point
invariant-loop-point g l =
    l.widths.items ≡ map (λ c. length c.values) (map point_claim (take l.point-index l.points))
