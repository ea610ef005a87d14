use Rattle.std.proofs.Common.{◌≡◌, ◌∙◌, sym, ap, arith}
use Rattle.std.proofs.lemmas.Grind.{common_steps}
use Rattle.circle_field.specs.Field.{sub}
use Rattle.circle_point.specs.Point.{coordinates}
use Rattle.circle_point.proofs.Selectors.{vanishing_norm}
use Rattle.circle_point.proofs.point.Point.v_p.Goals as goal

pub returns-clause-re : goal.returns-clause-re
returns-clause-re g c = grind (arith, common_steps, g.met.EF.Field.sub_law, g.met.EF.Field.one_law)

pub returns-clause-im : goal.returns-clause-im
returns-clause-im g c = grind (arith, common_steps, g.met.EF.Field.neg_law)

pub returns-clause-norm : goal.returns-clause-norm
returns-clause-norm g c =
    let k = g.EF.Operations.ops in
    let d = coordinates c.add-difference.result in
    let re : c.sub.result ≡ sub k k.one d.x =
    grind (arith, common_steps, g.met.EF.Field.sub_law, g.met.EF.Field.one_law) in
    let im : c.neg-2.result ≡ k.neg d.y = g.met.EF.Field.neg_law _ _ c.neg-2.ensures in
    ap (λ r. k.add (k.mul r r) (k.mul c.neg-2.result c.neg-2.result)) re
    ∙ ap (λ i. k.add (k.mul (sub k k.one d.x) (sub k k.one d.x)) (k.mul i i)) im
    ∙ vanishing_norm g.EF.Operations.laws d c.add-difference.result.on_circle
    ∙ ap (λ r. k.add r r) (sym re)
