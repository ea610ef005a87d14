use Rattle.std.proofs.Common.{◌≡◌, ◌≢◌, ◌∙◌, sym, ap, arith}
use Rattle.std.proofs.lemmas.Grind.{common_steps}
use Rattle.circle_field.specs.Circle.{Coordinates}
use Rattle.circle_point.specs.Point.{coordinates}
use Rattle.circle_point.specs.Projective.{to_line}
use Rattle.circle_domain.proofs.Reciprocals.{reciprocal}
use Rattle.circle_domain.proofs.domain.inverse_zero_at.Goals as goal

pub inverse-requires : goal.inverse-requires
inverse-requires g c =
    λ z. c.requires
    (sym (ap (λ (r : Coordinates g.row.EF.Denot). r.y) c.sub-difference.ensures.difference)
    ∙ sym c.y.ensures ∙ z)

pub returns : goal.returns
returns g c =
    let k = g.EF.Operations.ops in
    let d = coordinates c.sub-difference.result in
    let same = c.sub-difference.ensures.difference in
    let flat : d.y ≢ k.zero =
    λ z. c.requires (sym (ap (λ (r : Coordinates g.row.EF.Denot). r.y) same) ∙ z) in
    let next : c.add.result ≡ k.add d.x k.one =
    grind (arith, common_steps, g.met.EF.Field.add_law, g.met.EF.Field.one_law) in
    g.met.EF.Field.mul_law _ _ _ c.mul.ensures
    ∙ ap (λ v. k.mul v c.inverse.result) next
    ∙ ap (k.mul (k.add d.x k.one)) (c.inverse.ensures ∙ ap k.inv c.y.ensures)
    ∙ reciprocal g.EF.Operations.laws d c.sub-difference.result.on_circle flat
    ∙ ap (λ (r : Coordinates g.row.EF.Denot). k.inv (to_line k r)) same
