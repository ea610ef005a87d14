use Rattle.circle_domain.specs.Domain.{log_size, shift_of}
use Rattle.circle_domain.proofs.Told.{values-tell}
use Rattle.circle_domain.proofs.laws.coefficients_are_only.Goals as goal

pub returns : goal.returns
returns g c =
    let d = c.args.domain.now in
    values-tell g.F.Operations.laws g.met.F.ComplexExtendable.generators_law (log_size d)
    (shift_of d) c.requires.in_group d.shift.on_circle c.requires.genuine.1
    c.args.coefficients.now c.args.others.now c.requires.genuine.0 c.requires.counted
    c.requires.as_many
