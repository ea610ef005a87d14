use Rattle.std.proofs.Common.{rules, ℕ, ◌≡◌, ◌-◌, ◌*◌, ◌%◌, ◌^◌, ◌∙◌, sym, ap, length, map, arith}
use Rattle.std.proofs.lemmas.List.{length-map}
use Rattle.circle_field.specs.Circle.{Coordinates}
use Rattle.circle_field.specs.Field.{nth_power, sub, two}
use Rattle.circle_point.specs.Point.{coordinates}
use Rattle.circle_point.specs.declared.point.Point.{Point}
use Rattle.circle_domain.specs.Domain.{log_size, shift_of}
use Rattle.circle_commit.specs.DotProduct.{dot, pairwise}
use Rattle.circle_domain.proofs.Twiddles.{map-map}
use Rattle.circle_folding.specs.Blocks.{spread}
use Rattle.circle_folding.specs.Lambda.{vanishing_values, lambda_of, remainder_of}
use Rattle.circle_folding.proofs.Remainders.{only-split, rest-orthogonal, rest-no_multiple}
use Rattle.circle_folding.proofs.Remainders.{quarter_turn}
use Rattle.circle_folding.proofs.Vanished.{word-blocks, word-length, halved_power}
use Rattle.circle_folding.proofs.deep_quotient.extract_lambda.Goals as goal

pub log2_strict-log_lde_size-requires : goal.log2_strict-log_lde_size-requires
log2_strict-log_lde_size-requires g c = (c.requires.size.0, c.requires.size.1)

pub overflow_sub-block : goal.overflow_sub-block
overflow_sub-block g c =
    let size = c.requires.size in
    let r = c.log2_strict-log_lde_size.ensures.only size.0 size.1 in
    omega (arith, r, size.2)

pub overflow_sub-log_lde_size : goal.overflow_sub-log_lde_size
overflow_sub-log_lde_size g c =
    let size = c.requires.size in
    let r = c.log2_strict-log_lde_size.ensures.only size.0 size.1 in
    omega (arith, r, size.2)

pub product_with_blocks-requires : goal.product_with_blocks-requires
product_with_blocks-requires g c =
    let size = c.requires.size in
    let points = c.in_ok-points.points.items in
    let r = c.log2_strict-log_lde_size.ensures.only size.0 size.1 in
    size.1
    ∙ word-length g.EF.Operations.ops g.EF.ExtensionField.embed g.F.Operations.laws.ring
    g.met.F.ComplexExtendable.generators_law c.log2_strict-log_lde_size.result size.0
    c.args.log_blowup (log_size c.standard.result) (shift_of c.standard.result)
    (map coordinates points)
    r size.2 size.3 g.met.F.ComplexExtendable.at_most_62 c.standard.ensures.size
    c.standard.ensures.shift c.in_ok-points.ensures
    ∙ ap (λ i. i * (1 * 2 ^ (c.log2_strict-log_lde_size.result - c.args.log_blowup) % 2 ^ 64))
    (length-map points coordinates ∙ sym (ap length c.deref.ensures.value))

pub subtract_from_blocks-requires : goal.subtract_from_blocks-requires
subtract_from_blocks-requires g c =
    let size = c.requires.size in
    let points = c.in_ok-points.points.items in
    let r = c.log2_strict-log_lde_size.ensures.only size.0 size.1 in
    size.1
    ∙ word-length g.EF.Operations.ops g.EF.ExtensionField.embed g.F.Operations.laws.ring
    g.met.F.ComplexExtendable.generators_law c.log2_strict-log_lde_size.result size.0
    c.args.log_blowup (log_size c.standard.result) (shift_of c.standard.result)
    (map coordinates points)
    r size.2 size.3 g.met.F.ComplexExtendable.at_most_62 c.standard.ensures.size
    c.standard.ensures.shift c.in_ok-points.ensures
    ∙ ap (λ i. i * (1 * 2 ^ (c.log2_strict-log_lde_size.result - c.args.log_blowup) % 2 ^ 64))
    (length-map points coordinates ∙ sym (ap length c.deref-2.ensures.value))

pub returns : goal.returns
returns g c =
    let k = g.F.Operations.ops in
    let l = g.EF.Operations.ops in
    let embed = g.EF.ExtensionField.embed in
    let gen = g.F.ComplexExtendable.generators in
    let size = c.requires.size in
    let word = c.args.lde.now in
    let log = c.log2_strict-log_lde_size.result in
    let points = c.in_ok-points.points.items in
    let x = λ (p : Coordinates g.row.F.Denot). embed p.x in
    let y = λ (p : Point g.row.F.Denot g.F.Operations). embed (coordinates p).x in
    let block = 1 * 2 ^ (log - c.args.log_blowup) % 2 ^ 64 in
    let r = c.log2_strict-log_lde_size.ensures.only size.0 size.1 in
    let m_is = λ (m : ℕ) (e : length word ≡ 2 ^ m). c.log2_strict-log_lde_size.ensures.only m e in
    let values : (m : ℕ) → length word ≡ 2 ^ m →
    spread block (map y points) ≡ vanishing_values k gen l embed c.args.log_blowup m =
    λ m e. ap (spread block) (sym (map-map x coordinates points))
    ∙ word-blocks l embed g.F.Operations.laws.ring g.met.F.ComplexExtendable.generators_law log m
    c.args.log_blowup (log_size c.standard.result) (shift_of c.standard.result)
    (map coordinates points)
    (m_is m e) (omega (arith, size.2, r, m_is m e)) (omega (arith, size.3, r, m_is m e))
    g.met.F.ComplexExtendable.at_most_62 c.standard.ensures.size c.standard.ensures.shift
    c.in_ok-points.ensures in
    let scale : (m : ℕ) → length word ≡ 2 ^ m →
    nth_power l (l.inv (two l)) (log - 1) ≡ l.inv (nth_power l (two l) (m - 1)) =
    λ m e. ap (λ i. nth_power l (l.inv (two l)) (i - 1)) (m_is m e)
    ∙ halved_power g.EF.Operations.laws (m - 1) in
    let lambda = c.div_2exp_u64-lambda.result in
    let rest = c.subtract_from_blocks.new.word in
    let lambda_is : (m : ℕ) → length word ≡ 2 ^ m →
    lambda ≡ lambda_of k gen l embed c.args.log_blowup m word =
    λ m e. c.div_2exp_u64-lambda.ensures
    ∙ ap (λ s. l.mul s (nth_power l (l.inv (two l)) (log - 1)))
    (c.product_with_blocks.ensures ∙ ap (λ ps. dot l word (spread block (map y ps)))
    c.deref.ensures.value ∙ ap (dot l word) (values m e))
    ∙ ap (l.mul _) (scale m e) in
    let rest_is : (m : ℕ) → length word ≡ 2 ^ m →
    rest ≡ remainder_of k gen l embed c.args.log_blowup m lambda word =
    λ m e. c.subtract_from_blocks.ensures
    ∙ ap (pairwise (λ a v. sub l a (l.mul lambda v)) word)
    (ap (λ ps. spread block (map y ps)) c.deref-2.ensures.value ∙ values m e) in
    let base = g.F.Operations.laws.ring in
    let gens = g.met.F.ComplexExtendable.generators_law in
    let quarter = quarter_turn g.F.Operations.laws g.F.PartialEq.eq g.met.F.Field.eq_law gens
    (omega (arith, c.requires.blowup, size.2, size.3)) in
    record {
      lambda = lambda_is;
      remainder = rest_is;
      split = λ m e. only-split base g.EF.Operations.laws g.met.EF.ExtensionField.embedding gens
          quarter c.args.log_blowup m
          c.requires.blowup (omega (arith, size.2, r, m_is m e))
          (omega (arith, size.3, r, m_is m e)) word rest lambda e (lambda_is m e) (rest_is m e);
      orthogonal =
          λ m e. rest-orthogonal base g.EF.Operations.laws g.met.EF.ExtensionField.embedding gens
          quarter c.args.log_blowup m
          c.requires.blowup (omega (arith, size.2, r, m_is m e))
          (omega (arith, size.3, r, m_is m e)) word rest lambda e (lambda_is m e) (rest_is m e);
      again = λ m e. rest-no_multiple base g.EF.Operations.laws g.met.EF.ExtensionField.embedding
          gens quarter c.args.log_blowup m
          c.requires.blowup (omega (arith, size.2, r, m_is m e))
          (omega (arith, size.3, r, m_is m e)) word rest lambda e (lambda_is m e) (rest_is m e);
      refused = search rules;
    }
