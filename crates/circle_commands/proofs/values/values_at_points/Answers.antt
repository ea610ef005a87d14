use Rattle.std.proofs.Common.{List, Vec, Global, subst, arith}
use Rattle.std.proofs.lemmas.Grind.{common_steps}
use Rattle.circle_field.specs.declared.mersenne31.Mersenne31.{Mersenne31}
use Rattle.circle_commands.specs.Rows.{lists, IsRectangular}
use Rattle.circle_commands.specs.Input.{coefficients_of}
use Rattle.circle_commands.proofs.values.values_at_points.Goals as goal

pub returns-in_err-values-clause-ragged : goal.returns-in_err-values-clause-ragged
returns-in_err-values-clause-ragged c =
    let rectangular : IsRectangular (coefficients_of c.args.input.now) =
    subst (λ (rows : List (Vec Mersenne31 Global)). IsRectangular (lists rows))
    c.deref.ensures.value (c.is_rectangular.ensures.0 c.if-not-is_rectangular.false) in
    (λ h. absurd (grind (arith, common_steps)), λ h. absurd (h.2 rectangular))

pub returns-clause-ragged : goal.returns-clause-ragged
returns-clause-ragged c =
    let rectangular : IsRectangular (coefficients_of c.args.input.now) =
    subst (λ (rows : List (Vec Mersenne31 Global)). IsRectangular (lists rows))
    c.deref.ensures.value (c.is_rectangular.ensures.0 c.if-not-is_rectangular.false) in
    (λ h. absurd (cc), λ h. absurd (h.2 rectangular))
