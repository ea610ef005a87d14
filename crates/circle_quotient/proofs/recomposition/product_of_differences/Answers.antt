use Rattle.std.proofs.Common.{◌∙◌, sym, ap, arith, map, take}
use Rattle.std.proofs.lemmas.List.{take_all, map_more}
use Rattle.circle_field.specs.Field.{sub}
use Rattle.circle_field.specs.Products.{product}
use Rattle.circle_field.proofs.Inverses.{product-append}
use Rattle.circle_quotient.proofs.recomposition.product_of_differences.Goals as goal

pub loop-value-preserved : goal.loop-value-preserved
loop-value-preserved g c =
    let k = g.EF.Operations.ops in
    let m = g.EF.ExtensionField.embed in
    let at = c.args.at in
    let values = c.args.values.now in
    let i = c.loop-value.value-index in
    let x = c.value-item.result in
    let gap = λ (x : g.row.F.Denot). sub k at (m x) in
    let before = map gap (take i values) in
    g.met.EF.Field.mul_law _ _ _ c.mul-product.ensures
    ∙ ap (λ p. k.mul p c.sub.result) c.loop-value.invariant
    ∙ ap (k.mul (product k before))
    (g.met.EF.Field.sub_law _ _ _ c.sub.ensures ∙ ap (sub k at) c.from_base.ensures
    ∙ ap gap c.value-item.is)
    ∙ sym (product-append g.EF.Operations.laws before _)
    ∙ ap (product k) (sym (map_more gap values i x c.loop-value-test.true))

pub returns : goal.returns
returns g c =
    let k = g.EF.Operations.ops in
    let gap = λ (x : g.row.F.Denot). sub k c.args.at (g.EF.ExtensionField.embed x) in
    c.loop-value.invariant
    ∙ ap (λ xs. product k (map gap xs))
    (take_all c.loop-value.value-index c.args.values.now (omega (arith, c.loop-value-test.false)))
