use Rattle.std.proofs.Common.{◌≤◌, ◌^◌, length, sym, subst}
use Rattle.circle_domain.specs.Periodic.{IsClearOfPeriod}
use Rattle.circle_point.specs.Projective.{from_line}
use Rattle.circle_quotient.proofs.Sizes.{is_power_of_two-exponent}
use Rattle.circle_stark.proofs.identity.periodic_value.Goals as goal

pub evaluate_periodic_column_at-requires-clause-power :
    goal.evaluate_periodic_column_at-requires-clause-power
evaluate_periodic_column_at-requires-clause-power g c = λ several.
    is_power_of_two-exponent (length c.args.column.now) c.requires.power

pub evaluate_periodic_column_at-requires-clause-at_most_size :
    goal.evaluate_periodic_column_at-requires-clause-at_most_size
evaluate_periodic_column_at-requires-clause-at_most_size g c = λ several.
    subst (λ n. length c.args.column.now ≤ 2 ^ n) (sym c.standard.ensures.size) c.requires.short

pub evaluate_periodic_column_at-requires-clause-clear :
    goal.evaluate_periodic_column_at-requires-clause-clear
evaluate_periodic_column_at-requires-clause-clear g c = λ several.
    subst
    (λ n. IsClearOfPeriod g.F.Operations.ops g.F.ComplexExtendable.generators g.EF.Operations.ops
    g.EF.ExtensionField.embed n c.args.column.now (from_line g.EF.Operations.ops c.args.zeta))
    (sym c.standard.ensures.size)
    (c.fit_is_clear.ensures.periods c.requires.fit c.args.column.now c.requires.short)
