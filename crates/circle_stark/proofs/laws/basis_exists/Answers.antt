use Rattle.std.specs.Prelude.{replicate, slice_set}
use Rattle.std.proofs.Common.{◌≡◌, [], ◌∷◌, ◌++◌, ◌∙◌, ap, subst, arith}
use Rattle.circle_quotient.proofs.Basis.{zero-coefficients}
use Rattle.circle_stark.proofs.BasisElements.{AreFirst, no-elements, one-more, whole}
use Rattle.circle_stark.proofs.laws.basis_exists.Goals as goal

pub loop-i-init : goal.loop-i-init
loop-i-init g c = (
  [],
  no-elements g.F.Operations.ops g.EF.ExtensionField.coefficients
      g.EF.ExtensionField.DEGREE,
)

pub loop-i-preserved : goal.loop-i-preserved
loop-i-preserved g c =
    let k = g.F.Operations.ops in
    let coefficients = g.EF.ExtensionField.coefficients in
    let degree = g.EF.ExtensionField.DEGREE in
    let n = c.loop-i.i in
    let first = c.loop-i.invariant in
    let element = c.with_coefficient-element.result in
    let here : coefficients element ≡ slice_set (replicate degree k.zero) n k.one =
    c.with_coefficient-element.ensures
    ∙ ap (λ (x : g.row.EF.Denot). slice_set (coefficients x) n c.ONE.result)
    (c.ZERO.ensures ∙ g.met.EF.Field.zero_law)
    ∙ ap (λ cs. slice_set cs n c.ONE.result)
    (zero-coefficients g.F.Operations.laws g.EF.Operations.laws g.met.EF.ExtensionField.embedding
    g.met.EF.ExtensionField.are_coefficients)
    ∙ ap (slice_set (replicate degree k.zero) n) (c.ONE.ensures ∙ g.met.F.Field.one_law) in
    (first.0 ++ element ∷ [], one-more k coefficients degree n first.0 element first.1 here)

pub returns : goal.returns
returns g c =
    let k = g.F.Operations.ops in
    let coefficients = g.EF.ExtensionField.coefficients in
    let degree = g.EF.ExtensionField.DEGREE in
    let end : c.loop-i.i ≡ degree = omega arith in
    let first = c.loop-i.invariant in (
      first.0,
      whole k coefficients degree first.0
          (subst (λ i. AreFirst k coefficients degree i first.0) end first.1),
    )
