use Rattle.std.proofs.Common.{arith}
use Rattle.circle_quotient.proofs.NextRows.{next_values}
use Rattle.circle_quotient.proofs.laws.next_row.Goals as goal

pub returns : goal.returns
returns g c =
    next_values g.F.Operations.laws g.EF.Operations.laws g.met.EF.ExtensionField.embedding
    g.met.F.ComplexExtendable.generators_law c.args.log_n c.requires.positive
    (omega (arith, c.requires.in_group)) c.args.column.now c.args.next.now c.requires.rotated _
    c.args.at.on_circle
