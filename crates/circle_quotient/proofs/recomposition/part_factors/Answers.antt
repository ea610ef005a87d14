use Rattle.std.proofs.Common.{◌≡◌, ◌≢◌, ℕ, ◌<◌, ◌++◌, ◌+◌, [], ◌∷◌, ◌∙◌, sym, ap, arith, length}
use Rattle.std.proofs.Common.{map}
use Rattle.std.proofs.Common.{All, subst}
use Rattle.std.specs.List.{range_with_len}
use Rattle.std.specs.Prelude.{remove, slice_index_or}
use Rattle.std.proofs.lemmas.List.{length-map, get_or-map}
use Rattle.std.proofs.lemmas.List.FromFn.{length-map-range_with_len, get_or-map-range_with_len}
use Rattle.circle_commit.proofs.Written.{range-more}
use Rattle.circle_quotient.specs.Recomposition.{part_factor}
use Rattle.circle_quotient.proofs.PartFactors.{gaps, gaps-nonzero, others-differ, factor-made}
use Rattle.circle_quotient.proofs.recomposition.part_factors.Goals as goal

pub batch_multiplicative_inverse-requires : goal.batch_multiplicative_inverse-requires
batch_multiplicative_inverse-requires g c =
    let k = g.F.Operations.ops in
    let laws = g.F.Operations.laws in
    let values = c.args.values.now in
    let f = λ (j : ℕ). gaps laws (slice_index_or values j k.zero) (remove values j) in
    let NonZero : g.row.F.Denot → Type 0 = λ y. y ≢ k.zero in
    subst (All NonZero) (sym (c.deref.ensures.value ∙ c.in_ok-denominators.ensures))
    (λ i d lt.
    let within : i < length values =
    omega (arith, lt, length-map-range_with_len f 0 (length values)) in
    subst NonZero (sym (get_or-map-range_with_len f 0 (length values) i i d within (omega arith)))
    (gaps-nonzero laws (slice_index_or values i k.zero) (remove values i)
    (others-differ laws values i within c.requires)))

pub index-requires : goal.index-requires
index-requires g c =
    let k = g.F.Operations.ops in
    let laws = g.F.Operations.laws in
    let values = c.args.values.now in
    let f = λ (j : ℕ). gaps laws (slice_index_or values j k.zero) (remove values j) in
    let made = map f (range_with_len 0 (length values)) in
    let inverses = c.in_ok-inverses.inverses in
    let long : length inverses.items ≡ length values =
    ap length (c.in_ok-inverses.ensures
    ∙ ap (map k.inv) (c.deref.ensures.value ∙ c.in_ok-denominators.ensures))
    ∙ length-map made k.inv ∙ length-map-range_with_len f 0 (length values) in
    omega (arith, long, inverses.ok.0, c.loop-j-test.true)

pub loop-j-preserved : goal.loop-j-preserved
loop-j-preserved g c =
    let k = g.F.Operations.ops in
    let l = g.EF.Operations.ops in
    let laws = g.F.Operations.laws in
    let laws' = g.EF.Operations.laws in
    let m = g.EF.ExtensionField.embed in
    let at = c.args.at in
    let values = c.args.values.now in
    let j = c.loop-j.j in
    let within : j < length values = c.loop-j-test.true in
    let u = c.index.result.now in
    let w = c.product_without.result in
    let f = λ (j : ℕ). gaps laws (slice_index_or values j k.zero) (remove values j) in
    let made = map f (range_with_len 0 (length values)) in
    let factor = λ (j : ℕ). part_factor l (map m values) j at in
    let inverse : u ≡ k.inv (f j) =
    c.index.ensures
    ∙ ap (λ xs. slice_index_or xs j u) (c.in_ok-inverses.ensures
    ∙ ap (map k.inv) (c.deref.ensures.value ∙ c.in_ok-denominators.ensures))
    ∙ get_or-map k.inv made j k.zero u
    (omega (arith, within, length-map-range_with_len f 0 (length values)))
    ∙ ap k.inv (get_or-map-range_with_len f 0 (length values) j j k.zero within (omega arith)) in
    let value : c.times_base.result ≡ factor j =
    c.times_base.ensures ∙ ap (λ x. l.mul (m x) w) inverse
    ∙ ap (l.mul (m (k.inv (f j)))) c.product_without.ensures
    ∙ sym (factor-made laws laws' g.met.EF.ExtensionField.embedding values j at within
    (others-differ laws values j within c.requires)) in
    c.in_ok-push.ensures.items
    ∙ ap (λ xs. xs ++ c.times_base.result ∷ []) c.loop-j.invariant
    ∙ ap (λ x. map factor (range_with_len 0 j) ++ x ∷ []) value
    ∙ ap (λ i. map factor (range_with_len 0 j) ++ factor i ∷ [])
    (let e : j ≡ 0 + j = omega arith in e)
    ∙ sym (range-more factor 0 j)
