use Rattle.circle_air.specs.Air.{air_of}
use Rattle.circle_air.specs.Valid.{valid}
use Rattle.circle_stark.specs.Statement.{statement_of, values_of}
use Rattle.circle_stark.proofs.OpenedIdentity.{next-there, of-columns}
use Rattle.circle_stark.proofs.laws.opened_identity.Goals as goal

pub returns : goal.returns
returns g c = λ columns chunks basis long of_basis opens.
    let laws = g.EF.Operations.laws in
    let s = statement_of c.args.statement.now in
    let air = c.args.statement.now.air.now in
    of-columns laws g.met.EF.ExtensionField.are_coefficients c.args.log_chunks s
    (valid (air_of air) air.valid).periods (values_of c.args.values.now) c.args.alpha c.args.zeta
    (next-there laws g.met.EF.ExtensionField.embedding g.met.F.ComplexExtendable.generators_law
    g.EF.PartialEq.eq g.met.EF.Field.eq_law s.log_n c.requires.in_group c.args.zeta c.requires.fit)
    c.requires.identity columns chunks opens basis of_basis long
