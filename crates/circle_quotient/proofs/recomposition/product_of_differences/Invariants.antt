use Rattle.std.proofs.Common.{◌≡◌, map, take}
use Rattle.circle_field.specs.Field.{sub}
use Rattle.circle_field.specs.Products.{product}
use Rattle.circle_quotient.proofs.recomposition.product_of_differences.Given as goal

abbrev pub invariant-loop-value : goal.invariant-loop-value
invariant-loop-value g l =
    let k = g.EF.Operations.ops in
    l.product
    ≡ product k (map (λ x. sub k l.at (g.EF.ExtensionField.embed x)) (take l.value-index l.values))
