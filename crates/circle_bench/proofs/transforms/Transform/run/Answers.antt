use Rattle.std.proofs.Common.{◌∙◌, ap, arith}
use Rattle.circle_domain.specs.Domain.{log_size, shift_of}
use Rattle.circle_bench.proofs.Standard.{standard-genuine}
use Rattle.circle_bench.proofs.transforms.Transform.run.Goals as goal

pub interpolate-requires-clause-genuine : goal.interpolate-requires-clause-genuine
interpolate-requires-clause-genuine c =
    standard-genuine c.args.log_rows _ _
    (ap log_size c.from_cfft_order.ensures.domain ∙ c.standard-domain.ensures.size)
    (ap shift_of c.from_cfft_order.ensures.domain ∙ c.standard-domain.ensures.shift)
    c.requires.positive (omega (arith, c.requires.small))

pub extrapolate-requires-clause-genuine : goal.extrapolate-requires-clause-genuine
extrapolate-requires-clause-genuine c =
    standard-genuine c.args.log_rows _ _
    (ap log_size c.from_cfft_order-in-Extrapolate.ensures.domain ∙ c.standard-domain.ensures.size)
    (ap shift_of c.from_cfft_order-in-Extrapolate.ensures.domain ∙ c.standard-domain.ensures.shift)
    c.requires.positive (omega (arith, c.requires.small))
