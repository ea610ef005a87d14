use Rattle.std.proofs.Common.{arith}
use Rattle.circle_commit.specs.RowMajorMatrix.{rows}
use Rattle.circle_point.specs.Point.{coordinates}
use Rattle.circle_air.specs.Air.{air_of}
use Rattle.circle_air.specs.Valid.{valid}
use Rattle.circle_quotient.proofs.Sizes.{recomposes}
use Rattle.circle_quotient.proofs.laws.quotient_recomposes.Goals as goal

pub returns : goal.returns
returns g c =
    let air = c.args.air.now in
    recomposes g.F.Operations.laws g.EF.Operations.laws g.met.EF.ExtensionField.embedding
    g.met.F.ComplexExtendable.generators_law (air_of air) (valid (air_of air) air.valid)
    (rows c.args.trace.now) c.args.public_values.now c.args.log_n c.args.log_chunks
    c.requires.positive c.requires.some_chunks (omega (arith, c.requires.in_group))
    c.requires.degree
    c.requires.periods c.requires.satisfied c.args.alpha (coordinates c.args.at) c.args.at.on_circle
    c.requires.off
