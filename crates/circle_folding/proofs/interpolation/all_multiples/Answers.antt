use Rattle.std.proofs.Common.{◌≡◌, ◌+◌, ◌++◌, map, length, ◌∙◌, ap, arith}
use Rattle.std.proofs.lemmas.List.{length-map}
use Rattle.circle_domain.specs.Order.{coset}
use Rattle.circle_folding.specs.Interpolation.{multiples, block_factors}
use Rattle.circle_folding.proofs.Factors.{block_factors-coset, length-point_factors, point_factors}
use Rattle.circle_field.proofs.Inverses.{take-whole}
use Rattle.circle_folding.proofs.interpolation.all_multiples.Goals as goal

pub to_multiples-requires : goal.to_multiples-requires
to_multiples-requires g c =
    let k = g.F.Operations.ops in
    let gen = g.F.ComplexExtendable.generators in
    let m = c.args.log_points in
    let values : c.deref_mut.result.now ≡ c.args.word.now =
    c.deref_mut.ensures.value ∙ c.in_ok-extend_from_slice.ensures.items
    ∙ ap (λ xs. xs ++ c.args.word.now) c.in_ok-values.ensures.items in
    let q = gen (m + 2) in
    let inverses : length c.deref.result.now ≡ length (point_factors k gen m q) =
    ap length (c.deref.ensures.value ∙ c.in_ok-inverses.ensures
    ∙ ap (map k.inv) (block_factors-coset k gen m q))
    ∙ length-map (point_factors k gen m q) k.inv in (
      m,
      ap length values ∙ c.requires.length,
      omega (arith, inverses, length-point_factors k gen m q),
    )

pub returns : goal.returns
returns g c =
    let k = g.F.Operations.ops in
    let l = g.EF.Operations.ops in
    let embed = g.EF.ExtensionField.embed in
    let m = c.args.log_points in
    let old = c.extend_from_slice.new.self in
    let new = c.to_multiples.new.values in
    let values : c.deref_mut.result.now ≡ c.args.word.now =
    c.deref_mut.ensures.value ∙ c.in_ok-extend_from_slice.ensures.items
    ∙ ap (λ xs. xs ++ c.args.word.now) c.in_ok-values.ensures.items in
    take-whole old.len new old.items old.ok.0
    (c.to_multiples.auto.values ∙ ap length c.deref_mut.ensures.value)
    ∙ c.to_multiples.ensures m (ap length values ∙ c.requires.length)
    ∙ ap (λ is. multiples l embed m is c.deref_mut.result.now)
    (c.deref.ensures.value ∙ c.in_ok-inverses.ensures)
    ∙ ap
    (multiples l embed m
    (map k.inv
    (block_factors k m
    (map (λ p. p.x)
    (coset k g.F.ComplexExtendable.generators m (g.F.ComplexExtendable.generators (m + 2)))))))
    values
