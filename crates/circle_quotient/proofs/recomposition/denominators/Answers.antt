use Rattle.std.proofs.Common.{◌≡◌, ℕ, ◌++◌, ◌+◌, [], ◌∷◌, ◌∙◌, sym, ap, arith, length, map}
use Rattle.std.specs.List.{range_with_len}
use Rattle.std.specs.Prelude.{remove, slice_index_or}
use Rattle.std.proofs.lemmas.List.{get_or_default}
use Rattle.circle_field.specs.Field.{sub}
use Rattle.circle_field.specs.Products.{product}
use Rattle.circle_commit.proofs.Written.{range-more}
use Rattle.circle_quotient.proofs.recomposition.denominators.Goals as goal

pub loop-j-preserved : goal.loop-j-preserved
loop-j-preserved g c =
    let k = g.F.Operations.ops in
    let values = c.args.values.now in
    let j = c.loop-j.j in
    let v = c.index-values-j.result in
    let f = λ (j : ℕ). product k
    (map (λ (x : g.row.F.Denot). sub k (slice_index_or values j k.zero) x) (remove values j)) in
    c.in_ok-push.ensures.items
    ∙ ap (λ xs. xs ++ c.product_without.result ∷ []) c.loop-j.invariant
    ∙ ap (λ x. map f (range_with_len 0 j) ++ x ∷ [])
    (c.product_without.ensures
    ∙ ap
    (λ (own : g.row.F.Denot). product k
    (map (λ (x : g.row.F.Denot). sub k own x) (remove values j)))
    (c.index-values-j.is ∙ get_or_default values j v k.zero c.loop-j-test.true))
    ∙ ap (λ m. map f (range_with_len 0 j) ++ f m ∷ []) (let e : j ≡ 0 + j = omega arith in e)
    ∙ sym (range-more f 0 j)

pub returns : goal.returns
returns g c =
    let k = g.F.Operations.ops in
    let values = c.args.values.now in
    c.loop-j.invariant
    ∙ ap (λ n. map (λ (j : ℕ). product k
    (map (λ (x : g.row.F.Denot). sub k (slice_index_or values j k.zero) x) (remove values j)))
    (range_with_len 0 n))
    (let e : c.loop-j.j ≡ length values = omega (arith, c.loop-j-test.false, c.loop-j.auto.j-end) in
    e)
