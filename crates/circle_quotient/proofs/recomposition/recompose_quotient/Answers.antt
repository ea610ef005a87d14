use Rattle.std.proofs.Common.{◌≢◌, ℕ, ◌<◌, ◌∙◌, sym, ap, subst, arith, length, map, List}
use Rattle.std.specs.List.{range_with_len}
use Rattle.std.specs.Prelude.{slice_index_or}
use Rattle.std.proofs.lemmas.List.{length-map}
use Rattle.std.proofs.lemmas.List.FromFn.{length-map-range_with_len}
use Rattle.circle_commit.specs.DotProduct.{dot}
use Rattle.circle_point.specs.Basis.{vanishing}
use Rattle.circle_point.specs.Projective.{from_line}
use Rattle.circle_quotient.specs.Recomposition.{IsRecomposed, part_factor, part_values}
use Rattle.circle_quotient.proofs.PartFactors.{values-distinct, length-part_values}
use Rattle.circle_quotient.proofs.recomposition.recompose_quotient.Goals as goal

pub values_on_parts-requires-clause-in_group : goal.values_on_parts-requires-clause-in_group
values_on_parts-requires-clause-in_group g c =
    c.requires.in_group c.log2_strict.result (sym c.log2_strict.ensures.power)

pub part_factors-requires : goal.part_factors-requires
part_factors-requires g c =
    let values = part_values g.F.Operations.ops g.F.ComplexExtendable.generators c.args.log_n
    c.log2_strict.result in
    let Distinct : List g.row.F.Denot → Type 0 = λ xs.
    (i j : ℕ) (d : g.row.F.Denot) → i < j → j < length xs →
    slice_index_or xs i d ≢ slice_index_or xs j d in
    subst Distinct (sym (c.deref.ensures.value ∙ c.in_ok-on_parts.ensures))
    (λ i j d lt below. values-distinct g.F.Operations.laws g.met.F.ComplexExtendable.generators_law
    c.args.log_n c.log2_strict.result i j d c.requires.positive
    (c.requires.in_group c.log2_strict.result (sym c.log2_strict.ensures.power)) lt
    (omega (
      arith,
      below,
      length-part_values g.F.Operations.laws
          g.met.F.ComplexExtendable.generators_law c.args.log_n c.log2_strict.result
          c.requires.positive,
    )))

pub chunk_values-requires : goal.chunk_values-requires
chunk_values-requires g c = λ i d lt.
    c.requires.widths i d lt ∙ sym (ap length c.deref-2.ensures.value ∙ c.in_ok-basis.ensures.count)

pub dot_product-requires : goal.dot_product-requires
dot_product-requires g c =
    let l = g.EF.Operations.ops in
    let m = g.EF.ExtensionField.embed in
    let xs = c.deref.result.now in
    let chunks = map (λ chunk. chunk.items) c.args.chunks.now in
    ap length (c.deref-3.ensures.value ∙ c.in_ok-factors.ensures)
    ∙ length-map-range_with_len
    (λ j. part_factor l (map m xs) j c.vanishing_at-vanishing.result) 0 (length xs)
    ∙ ap length (c.deref.ensures.value ∙ c.in_ok-on_parts.ensures)
    ∙ length-part_values g.F.Operations.laws g.met.F.ComplexExtendable.generators_law
    c.args.log_n c.log2_strict.result c.requires.positive
    ∙ c.log2_strict.ensures.power
    ∙ sym (length-map c.args.chunks.now (λ chunk. chunk.items))
    ∙ sym (length-map chunks (dot l c.deref-2.result.now))
    ∙ sym (ap length (c.deref-4.ensures.value ∙ c.in_ok-values.ensures))

pub returns : goal.returns
returns g c = λ k e.
    let l = g.EF.Operations.ops in
    let m = g.EF.ExtensionField.embed in
    let gen = g.F.ComplexExtendable.generators in
    let n = c.args.log_n in
    let values = part_values g.F.Operations.ops gen n c.log2_strict.result in
    let chunks = map (λ chunk. chunk.items) c.args.chunks.now in
    let q = from_line l c.args.zeta in
    let at = vanishing l n q in
    let basis = c.in_ok-basis.field-0.items in
    let factors = λ (xs : List g.row.F.Denot) (x : g.row.EF.Denot).
    map (λ j. part_factor l (map m xs) j x) (range_with_len 0 (length xs)) in
    let Made : ℕ → Type 0 = λ kk.
    IsRecomposed g.F.Operations.ops gen l m g.EF.ExtensionField.coefficients
    g.EF.ExtensionField.DEGREE n kk chunks q c.dot_product.result in
    subst Made (c.log2_strict.ensures.only k e) (
      basis,
      c.in_ok-basis.ensures,
      c.dot_product.ensures
          ∙ ap (λ fs. dot l fs c.deref-4.result.now)
          (c.deref-3.ensures.value ∙ c.in_ok-factors.ensures
          ∙ ap (λ xs. factors xs c.vanishing_at-vanishing.result)
          (c.deref.ensures.value ∙ c.in_ok-on_parts.ensures)
          ∙ ap (factors values) c.vanishing_at-vanishing.ensures
          ∙ ap (λ count. map (λ j. part_factor l (map m values) j at) (range_with_len 0 count))
          (sym (length-map values m)))
          ∙ ap (dot l (map (λ j. part_factor l (map m values) j at)
          (range_with_len 0 (length (map m values)))))
          (c.deref-4.ensures.value ∙ c.in_ok-values.ensures
          ∙ ap (λ bs. map (dot l bs) chunks) c.deref-2.ensures.value),
    )
