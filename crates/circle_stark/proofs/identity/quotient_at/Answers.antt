use Rattle.std.proofs.Common.{◌≡◌, ◌<◌, ◌∙◌, [], ap, arith, length, map, subst, sym}
use Rattle.std.proofs.Common.{slice_index_or, vec_len}
use Rattle.std.proofs.lemmas.List.{get_or-map, length-map}
use Rattle.std.proofs.lemmas.Result.{IfOk-weaker}
use Rattle.circle_domain.proofs.Powers.{pow_injective}
use Rattle.circle_point.specs.Projective.{from_line}
use Rattle.circle_quotient.specs.Recomposition.{IsRecomposed}
use Rattle.circle_stark.proofs.identity.quotient_at.Goals as goal

pub recompose_quotient-requires-clause-in_group : goal.recompose_quotient-requires-clause-in_group
recompose_quotient-requires-clause-in_group g c = λ k count.
    let chunks = c.args.values.now.quotient_chunks.items in
    let same : k ≡ c.args.log_chunks = pow_injective k c.args.log_chunks
    (sym count ∙ ap length c.deref.ensures.value ∙ sym (length-map chunks (λ v. v.items))
    ∙ c.requires.shape.chunks) in
    omega (arith, same, c.requires.domains.in_group)

pub recompose_quotient-requires-clause-widths : goal.recompose_quotient-requires-clause-widths
recompose_quotient-requires-clause-widths g c = λ i d below.
    let chunks = c.args.values.now.quotient_chunks.items in
    let there : i < length chunks = subst (λ cs. i < length cs) c.deref.ensures.value below in
    let wide = c.requires.shape.columns i []
    (omega (arith, there, length-map chunks (λ v. v.items))) in
    ap (λ cs. vec_len (slice_index_or cs i d)) c.deref.ensures.value
    ∙ omega (arith, (slice_index_or chunks i d).ok)
    ∙ ap length (sym (get_or-map (λ v. v.items) chunks i d [] there)) ∙ wide

pub returns : goal.returns
returns g c =
    let chunks = c.args.values.now.quotient_chunks.items in
    let count = ap length c.deref.ensures.value ∙ sym (length-map chunks (λ v. v.items))
    ∙ c.requires.shape.chunks in
    let Recomposed = λ (cs : _).
    IsRecomposed g.F.Operations.ops g.F.ComplexExtendable.generators g.EF.Operations.ops
    g.EF.ExtensionField.embed g.EF.ExtensionField.coefficients g.EF.ExtensionField.DEGREE
    c.args.statement.now.log_n c.args.log_chunks (map (λ v. v.items) cs)
    (from_line g.EF.Operations.ops c.args.zeta) in
    IfOk-weaker c.recompose_quotient.result _ (Recomposed chunks)
    (λ v is. subst (λ cs. Recomposed cs v) c.deref.ensures.value (is c.args.log_chunks count))
    c.recompose_quotient.ensures
