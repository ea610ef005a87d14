use Rattle.std.proofs.lemmas.Result.{IfOk-weaker}
use Rattle.circle_point.specs.Point.{coordinates}
use Rattle.circle_plane.proofs.cfft.CircleEvaluations.evaluate_at_point.Goals as goal

pub evaluate_by_weights-requires-clause-genuine : goal.evaluate_by_weights-requires-clause-genuine
evaluate_by_weights-requires-clause-genuine g c = c.requires.genuine

pub returns-clause-values : goal.returns-clause-values
returns-clause-values g c =
    IfOk-weaker c.evaluate_by_weights.result _ _
    (λ found by. by (coordinates c.args.point) c.in_ok-weights.ensures.sum)
    c.evaluate_by_weights.ensures.values

pub returns-clause-only : goal.returns-clause-only
returns-clause-only g c =
    IfOk-weaker c.evaluate_by_weights.result _ _
    (λ found by. by (coordinates c.args.point) c.in_ok-weights.ensures.sum)
    c.evaluate_by_weights.ensures.only
