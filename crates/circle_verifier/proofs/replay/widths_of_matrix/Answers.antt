use Rattle.std.proofs.Common.{length, map, ap, ◌∙◌}
use Rattle.std.proofs.lemmas.List.{take_all}
use Rattle.circle_relation.specs.StatementOf.{point_claim}
use Rattle.circle_verifier.proofs.replay.widths_of_matrix.Goals as goal

pub returns : goal.returns
returns g c =
    c.loop-point.invariant
    ∙ ap (λ ps. map (λ c. length c.values) (map point_claim ps))
    (take_all c.loop-point.point-index c.args.points.now c.loop-point-test.false)
