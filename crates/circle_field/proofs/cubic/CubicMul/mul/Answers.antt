use Rattle.std.proofs.Common.{◌≡◌, ◌+◌, ◌∙◌, ap}
use Rattle.circle_field.specs.Field.{of_nat}
use Rattle.circle_field.specs.Mersenne31.{operations as base}
use Rattle.circle_field.specs.Cubic.{of_triple}
use Rattle.circle_field.specs.CubicField.{crossed}
use Rattle.circle_field.specs.CubicLaws.{same_triple}
use Rattle.circle_field.proofs.CubicProducts.{ones-product, ones-sum, ones-five}
use Rattle.circle_field.proofs.cubic.CubicMul.mul.Goals as goal

pub returns : goal.returns
returns c =
    let a = c.args.self in
    let b = c.args.rhs in
    let low : of_nat base c.product-8.result ≡ base.mul a.c0 b.c0 =
    ap (of_nat base) c.product-8.ensures.product ∙ ones-product a.c0 b.c0 in
    let mid : of_nat base c.product-9.result ≡ base.mul a.c1 b.c1 =
    ap (of_nat base) c.product-9.ensures.product ∙ ones-product a.c1 b.c1 in
    let top : of_nat base c.product-3.result ≡ base.mul a.c2 b.c2 =
    ap (of_nat base) c.product-3.ensures.product ∙ ones-product a.c2 b.c2 in
    let high : of_nat base (c.product.result + c.product-2.result) ≡ crossed base a.c1 a.c2 b.c1
    b.c2 =
    ones-sum _ _ _ _ (ap (of_nat base) c.product.ensures.product ∙ ones-product a.c1 b.c2)
    (ap (of_nat base) c.product-2.ensures.product ∙ ones-product a.c2 b.c1) in
    let cross : of_nat base (c.product-4.result + c.product-5.result) ≡ crossed base a.c0 a.c1 b.c0
    b.c1 =
    ones-sum _ _ _ _ (ap (of_nat base) c.product-4.ensures.product ∙ ones-product a.c0 b.c1)
    (ap (of_nat base) c.product-5.ensures.product ∙ ones-product a.c1 b.c0) in
    let outer : of_nat base (c.product-6.result + c.product-7.result) ≡ crossed base a.c0 a.c2 b.c0
    b.c2 =
    ones-sum _ _ _ _ (ap (of_nat base) c.product-6.ensures.product ∙ ones-product a.c0 b.c2)
    (ap (of_nat base) c.product-7.ensures.product ∙ ones-product a.c2 b.c0) in
    let c0 = c.from_u64.ensures
    ∙ ones-sum _ _ _ _ low (ones-five _ _ _ c.fold_bits-high.ensures high) in
    let c1 = c.from_u64-2.ensures
    ∙ ones-sum _ _ _ _ cross (ones-five _ _ _ c.fold_bits-top.ensures top) in
    let c2 = c.from_u64-3.ensures ∙ ones-sum _ _ _ _ outer mid in
    ap of_triple (same_triple c0 c1 c2)
