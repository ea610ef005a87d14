use Rattle.std.proofs.Common.{rules, ◌<◌, arith}
use Rattle.circle_prover.proofs.CommittedHeights.{power_below}
use Rattle.p3_circle.proofs.pcs.CirclePcs.natural_domain_for_degree.Goals as goal

pub standard-requires : goal.standard-requires
standard-requires g c =
    let two = g.Val.ComplexExtendable.CIRCLE_TWO_ADICITY in
    let below : c.log2_strict.result < two =
    power_below c.log2_strict.result two
    (omega (arith, c.log2_strict.ensures.power, c.requires.in_group)) in
    omega (arith, below)

pub returns-clause-standard : goal.returns-clause-standard
returns-clause-standard g c =
    let two = g.Val.ComplexExtendable.CIRCLE_TWO_ADICITY in
    let below : c.log2_strict.result < two =
    power_below c.log2_strict.result two
    (omega (arith, c.log2_strict.ensures.power, c.requires.in_group)) in
    search (rules, below)
