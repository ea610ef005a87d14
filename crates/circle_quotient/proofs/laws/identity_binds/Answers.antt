use Rattle.std.proofs.Common.{◌∙◌, arith}
use Rattle.circle_commit.specs.RowMajorMatrix.{rows, rows-width}
use Rattle.circle_air.specs.Air.{air_of}
use Rattle.circle_air.specs.Valid.{valid}
use Rattle.circle_quotient.proofs.Sizes.{binds}
use Rattle.circle_quotient.proofs.laws.identity_binds.Goals as goal

pub returns : goal.returns
returns g c =
    let air = c.args.air.now in
    binds g.F.Operations.laws g.EF.Operations.laws g.met.EF.ExtensionField.embedding
    g.met.F.ComplexExtendable.generators_law (air_of air) (valid (air_of air) air.valid)
    (rows c.args.trace.now) c.args.public_values.now c.args.log_n c.args.log_chunks
    c.requires.positive (omega (arith, c.requires.in_group)) c.requires.degree c.requires.periods
    (λ i d lt. rows-width c.args.trace.now i d lt ∙ c.requires.width) c.requires.public
    c.args.alphas.now c.requires.count c.requires.distinct
