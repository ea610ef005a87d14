use Rattle.std.proofs.Common.{rules, sym, subst}
use Rattle.circle_field.specs.Mersenne31.{operations as base, generators}
use Rattle.circle_field.specs.Cubic.{operations, embed}
use Rattle.circle_point.specs.Point.{coordinates}
use Rattle.circle_domain.specs.Clear.{IsClearOf}
use Rattle.circle_domain.specs.Domain.{points_of}
use Rattle.circle_bench.proofs.evaluations.fastest.Goals as goal

pub evaluate_at_point-requires-clause-clear : goal.evaluate_at_point-requires-clause-clear
evaluate_at_point-requires-clause-clear c =
    subst (λ d. IsClearOf operations embed (points_of base generators d) (coordinates c.args.at))
    (sym c.from_cfft_order-evaluations.ensures.domain)
    (c.is_clear_of.ensures.0 (search rules))
