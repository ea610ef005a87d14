use Rattle.std.proofs.Common.{rules, ◌≤◌, ◌<◌, sym, arith}
use Rattle.p3_circle.specs.Scheme.{CanBeDegree}
use Rattle.circle_prover.proofs.CommittedHeights.{pow_below, power_below}
use Rattle.p3_circle.proofs.pcs.CirclePcs.try_natural_domain_for_degree.Goals as goal

pub
    returns-then-log2_strict-CIRCLE_TWO_ADICITY-clause-some :
    goal.returns-then-log2_strict-CIRCLE_TWO_ADICITY-clause-some
returns-then-log2_strict-CIRCLE_TWO_ADICITY-clause-some g c =
    let two = g.Val.ComplexExtendable.CIRCLE_TWO_ADICITY in
    let least : two ≤ c.log2_strict.result =
    omega (arith, c.if-log2_strict-CIRCLE_TWO_ADICITY.true, c.CIRCLE_TWO_ADICITY.ensures) in
    let none : CanBeDegree two c.args.degree → ⊥ = λ can.
    let below : c.log2_strict.result < two =
    power_below c.log2_strict.result two
    (omega (arith, c.log2_strict.ensures.power, can.in_group)) in
    omega (arith, below, least) in
    search (rules, none)

pub
    natural_domain_for_degree-requires-clause-in_group :
    goal.natural_domain_for_degree-requires-clause-in_group
natural_domain_for_degree-requires-clause-in_group g c =
    let two = g.Val.ComplexExtendable.CIRCLE_TWO_ADICITY in
    let less : c.log2_strict.result < two =
    omega (arith, c.if-log2_strict-CIRCLE_TWO_ADICITY.false, c.CIRCLE_TWO_ADICITY.ensures) in
    let below = pow_below c.log2_strict.result two less in
    omega (arith, below, c.log2_strict.ensures.power)

pub returns-clause-some : goal.returns-clause-some
returns-clause-some g c =
    let two = g.Val.ComplexExtendable.CIRCLE_TWO_ADICITY in
    let least : 2 ≤ c.args.degree = search rules in
    let less : c.log2_strict.result < two =
    omega (arith, c.if-log2_strict-CIRCLE_TWO_ADICITY.false, c.CIRCLE_TWO_ADICITY.ensures) in
    let below = pow_below c.log2_strict.result two less in
    let can : CanBeDegree two c.args.degree = record {
      power = (c.log2_strict.result, sym c.log2_strict.ensures.power);
      from_two = least;
      in_group = omega (arith, below, c.log2_strict.ensures.power);
    } in
    search (rules, can)
