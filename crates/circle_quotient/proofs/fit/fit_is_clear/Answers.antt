use Rattle.std.proofs.Common.{arith}
use Rattle.circle_point.specs.Projective.{from_line}
use Rattle.circle_quotient.proofs.FitPoints.{clear-where, clear-of-period, finite-on_circle}
use Rattle.circle_quotient.proofs.fit.fit_is_clear.Goals as goal

pub returns-clause-rows : goal.returns-clause-rows
returns-clause-rows g c = λ fit.
    let laws = g.EF.Operations.laws in
    clear-where g.F.Operations.laws laws g.met.EF.ExtensionField.embedding
    g.met.F.ComplexExtendable.generators_law g.EF.PartialEq.eq g.met.EF.Field.eq_law
    c.args.log_n c.requires.positive (omega (arith, c.requires.in_group))
    (from_line g.EF.Operations.ops c.args.zeta) (finite-on_circle laws c.args.zeta fit.finite)
    fit.off_domain

pub returns-clause-periods : goal.returns-clause-periods
returns-clause-periods g c = λ fit column short.
    let laws = g.EF.Operations.laws in
    clear-of-period g.F.Operations.laws laws g.met.EF.ExtensionField.embedding
    g.met.F.ComplexExtendable.generators_law g.EF.PartialEq.eq g.met.EF.Field.eq_law
    c.args.log_n c.requires.positive (omega (arith, c.requires.in_group)) column short
    (from_line g.EF.Operations.ops c.args.zeta) (finite-on_circle laws c.args.zeta fit.finite)
    fit.off_domain
