use Rattle.std.proofs.Common.{◌∙◌, ap, sym}
use Rattle.circle_air.specs.Air.{air_of}
use Rattle.circle_air.specs.Valid.{valid}
use Rattle.circle_stark.specs.Statement.{statement_of, values_of}
use Rattle.circle_stark.proofs.Fixed.{identity-shown, identity-told}
use Rattle.circle_stark.proofs.identity.has_identity.Goals as goal

pub returns : goal.returns
returns g c =
    let l = g.EF.Operations.ops in
    let k = g.F.Operations.ops in
    let gen = g.F.ComplexExtendable.generators in
    let m = g.EF.ExtensionField.embed in
    let s = statement_of c.args.statement.now in
    let v = values_of c.args.values.now in
    let air = c.args.statement.now.air.now in
    let composition = c.in_ok-composition.composition in
    let quotient = c.in_ok-quotient.quotient in
    let product = g.met.EF.Field.mul_law _ _ _ c.mul.ensures
    ∙ ap (λ x. l.mul x quotient) c.vanishing_at.ensures in
    let powers = (valid (air_of air) air.valid).periods in
    let told = g.met.EF.ExtensionField.are_coefficients in
    let composed = c.in_ok-composition.ensures in
    let recomposed = c.in_ok-quotient.ensures in
    let same = g.met.EF.Field.eq_law composition c.mul.result in (
      λ holds. identity-shown k gen l m s v c.args.drawn.alpha c.args.drawn.zeta powers
          g.EF.ExtensionField.coefficients g.EF.ExtensionField.DEGREE c.args.log_chunks told
          composition quotient composed recomposed
          (same.0 (sym c.eq.ensures ∙ holds) ∙ product),
      λ h. c.eq.ensures ∙ same.1
          (identity-told k gen l m s v c.args.drawn.alpha c.args.drawn.zeta powers
          g.EF.ExtensionField.coefficients g.EF.ExtensionField.DEGREE c.args.log_chunks told
          composition quotient composed recomposed h ∙ sym product),
    )
