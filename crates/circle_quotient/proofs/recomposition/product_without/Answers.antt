use Rattle.std.proofs.Common.{◌≡◌, suc, ◌+◌, ◌-◌, ◌∙◌, sym, ap, arith, length, map, take, drop}
use Rattle.std.proofs.Common.{length-drop}
use Rattle.std.proofs.lemmas.List.{map-append, take_all}
use Rattle.circle_field.specs.Field.{sub}
use Rattle.circle_field.specs.Products.{product}
use Rattle.circle_quotient.proofs.PartFactors.{product-both}
use Rattle.circle_quotient.proofs.recomposition.product_without.Goals as goal

pub returns : goal.returns
returns g c =
    let k = g.EF.Operations.ops in
    let values = c.args.values.now in
    let own = c.args.own in
    let gap = λ (x : g.row.F.Denot). sub k c.args.at (g.EF.ExtensionField.embed x) in
    let lower = take own values in
    let upper = drop (suc own) values in
    let next : own + 1 ≡ suc own = omega arith in
    g.met.EF.Field.mul_law _ _ _ c.mul.ensures
    ∙ ap (λ p. k.mul p c.product_of_differences.result)
    c.product_of_differences-before.ensures
    ∙ ap (k.mul (product k (map gap lower)))
    (c.product_of_differences.ensures
    ∙ ap (λ xs. product k (map gap xs))
    (take_all (length values - (own + 1)) (drop (own + 1) values)
    (omega (arith, length-drop (own + 1) values)) ∙ ap (λ n. drop n values) next))
    ∙ sym (product-both g.EF.Operations.laws (map gap lower) (map gap upper))
    ∙ ap (product k) (sym (map-append gap lower upper))
