use Rattle.std.proofs.Common.{◌≡◌, ◌∙◌, refl, sym, ap, subst, IsNone}
use Rattle.std.proofs.lemmas.Bool.{false≢true}
use Rattle.circle_field.specs.Field.{sub}
use Rattle.circle_field.specs.Circle.{lifted, IsOnCircle}
use Rattle.circle_field.specs.CircleGroup.{lifted-on_circle}
use Rattle.circle_point.specs.Point.{coordinates}
use Rattle.circle_folding.specs.Quotient.{real_part, imaginary_part}
use Rattle.circle_folding.proofs.Vanishing.{real_part-zero, zero-real_part}
use Rattle.circle_folding.proofs.Weighted.{claimed_quotient}
use Rattle.circle_folding.proofs.deep_quotient.deep_quotient_reduce_row.Goals as goal

pub returns-in_err-inverse-clause-none : goal.returns-in_err-inverse-clause-none
returns-in_err-inverse-clause-none g c =
    let l = g.EF.Operations.ops in
    let m = g.EF.ExtensionField.embed in
    let p = lifted m (coordinates c.args.x) in
    let on_circle : IsOnCircle l p =
    lifted-on_circle g.met.EF.ExtensionField.embedding (coordinates c.args.x)
    c.args.x.on_circle in
    let twice = sym (ap (λ re. l.add re re) c.v_p-re.ensures.re) ∙ sym c.double.ensures
    ∙ c.in_err-inverse.ensures.none.0 refl in (
      λ _. real_part-zero g.EF.Operations.laws g.EF.PartialEq.eq g.met.EF.Field.eq_law p
          (coordinates c.args.zeta) on_circle c.args.zeta.on_circle twice,
      λ _. subst IsNone (sym c.from_residual.ensures) refl,
    )

pub returns-clause-none : goal.returns-clause-none
returns-clause-none g c =
    let l = g.EF.Operations.ops in
    let m = g.EF.ExtensionField.embed in
    let p = lifted m (coordinates c.args.x) in (
      λ never. absurd (false≢true (sym never)),
      λ same. absurd (false≢true (sym (c.in_ok-inverse.ensures.none.1
          (c.double.ensures ∙ ap (λ re. l.add re re) c.v_p-re.ensures.re
          ∙ zero-real_part g.EF.Operations.laws g.EF.PartialEq.eq g.met.EF.Field.eq_law p
          (coordinates c.args.zeta) c.args.zeta.on_circle same)))),
    )

pub returns-clause-value : goal.returns-clause-value
returns-clause-value g c =
    let l = g.EF.Operations.ops in
    let top = c.args.alpha_pow_width in
    let mul_law = g.met.EF.Field.mul_law in
    let re =
    real_part l g.EF.ExtensionField.embed (coordinates c.args.x) (coordinates c.args.zeta) in
    let im = imaginary_part l g.EF.ExtensionField.embed (coordinates c.args.x)
    (coordinates c.args.zeta) in
    let part : c.sub.result ≡ sub l re (l.mul top im) =
    g.met.EF.Field.sub_law _ _ _ c.sub.ensures
    ∙ ap (λ r. sub l r c.mul.result) c.v_p-re.ensures.re
    ∙ ap (sub l re) (mul_law _ _ _ c.mul.ensures ∙ ap (l.mul top) c.v_p-re.ensures.im) in
    let half : c.in_ok-inverse.inverse ≡ l.inv (l.add re re) =
    c.in_ok-inverse.ensures.inverse
    ∙ ap l.inv (c.double.ensures ∙ ap (λ r. l.add r r) c.v_p-re.ensures.re) in
    mul_law _ _ _ c.mul-3.ensures
    ∙ ap (λ a. l.mul a c.weighted_differences-sum.result) (mul_law _ _ _ c.mul-2.ensures
    ∙ ap (λ a. l.mul a c.in_ok-inverse.inverse) part
    ∙ ap (l.mul (sub l re (l.mul top im))) half)
    ∙ ap (l.mul (l.mul (sub l re (l.mul top im)) (l.inv (l.add re re))))
    c.weighted_differences-sum.ensures

pub returns-clause-claim : goal.returns-clause-claim
returns-clause-claim g c = λ alpha top powers.
    returns-clause-value g c
    ∙ claimed_quotient g.EF.Operations.ops g.EF.ExtensionField.embed alpha c.args.alpha_pow_width
    c.args.alpha_powers.now (coordinates c.args.x) (coordinates c.args.zeta) c.args.ps_at_x.now
    c.args.ps_at_zeta.now
    c.requires.widths c.requires.enough top powers
