use Rattle.std.proofs.Common.{◌≡◌, ◌≢◌, ℕ, ◌+◌, ◌++◌, [], ◌∷◌, ◌∙◌, sym, ap, subst, map, length}
use Rattle.std.proofs.Common.{arith, All}
use Rattle.std.specs.List.{range_with_len}
use Rattle.std.proofs.lemmas.List.{map-append}
use Rattle.std.proofs.lemmas.List.Elements.{All-from_recursion}
use Rattle.circle_commit.proofs.Written.{range-more}
use Rattle.circle_domain.specs.Domain.{log_size, shift_of}
use Rattle.circle_domain.specs.Layers.{layer_factors}
use Rattle.circle_domain.proofs.LayerFactors.{layer_factors-nonzero}
use Rattle.circle_domain.proofs.Twiddles.{made-count}
use Rattle.circle_cfft.proofs.TwiddleRows.{made-at}
use Rattle.circle_cfft.proofs.twiddles.inverses_by_layer.Goals as goal

pub batch_multiplicative_inverse-requires : goal.batch_multiplicative_inverse-requires
batch_multiplicative_inverse-requires g c =
    let k = g.F.Operations.ops in
    let n = log_size c.args.domain in
    let s = shift_of c.args.domain in
    let f = layer_factors k g.F.ComplexExtendable.generators n s in
    let items = c.in_ok-twiddles.twiddles.items in
    let m = c.loop-factors.factors-index in
    let at = made-at (λ w. w.items) f items n c.in_ok-twiddles.ensures _ m c.factors-item.result
    c.deref-factors-items.ensures.value c.loop-factors-test.true c.factors-item.is in
    let NonZero : g.row.F.Denot → Type 0 = λ t. t ≢ k.zero in
    subst (All NonZero) (sym (c.deref.ensures.value ∙ at.1))
    (All-from_recursion NonZero (f m)
    (layer_factors-nonzero g.F.Operations.laws g.met.F.ComplexExtendable.generators_law n s
    c.requires.in_group c.args.domain.shift.on_circle c.requires.genuine.1 m at.0))

pub loop-factors-init : goal.loop-factors-init
loop-factors-init g c = ap (map (λ w. w.items)) c.in_ok-inverses.ensures.items

pub loop-factors-preserved : goal.loop-factors-preserved
loop-factors-preserved g c =
    let k = g.F.Operations.ops in
    let n = log_size c.args.domain in
    let f = layer_factors k g.F.ComplexExtendable.generators n (shift_of c.args.domain) in
    let inverses_of = λ (m : ℕ). map k.inv (f m) in
    let items = c.in_ok-twiddles.twiddles.items in
    let m = c.loop-factors.factors-index in
    let made = c.loop-factors.inverses.items in
    let next = c.in_ok-batch_multiplicative_inverse.field-0 in
    let at = made-at (λ w. w.items) f items n c.in_ok-twiddles.ensures _ m c.factors-item.result
    c.deref-factors-items.ensures.value c.loop-factors-test.true c.factors-item.is in
    let z : m ≡ 0 + m = omega arith in
    let is : next.items ≡ inverses_of m = c.in_ok-batch_multiplicative_inverse.ensures
    ∙ ap (map k.inv) (c.deref.ensures.value ∙ at.1) in
    ap (map (λ w. w.items)) c.in_ok-push.ensures.items ∙ map-append (λ w. w.items) made (next ∷ [])
    ∙ ap (λ xs. xs ++ next.items ∷ []) c.loop-factors.invariant
    ∙ ap (λ y. map inverses_of (range_with_len 0 m) ++ y ∷ []) (is ∙ ap inverses_of z)
    ∙ sym (range-more inverses_of 0 m)

pub returns : goal.returns
returns g c =
    let k = g.F.Operations.ops in
    let n = log_size c.args.domain in
    let f = layer_factors k g.F.ComplexExtendable.generators n (shift_of c.args.domain) in
    let count =
    made-count (λ w. w.items) f c.in_ok-twiddles.twiddles.items n c.in_ok-twiddles.ensures in
    let end : c.loop-factors.factors-index ≡ n =
    omega (
      arith,
      c.loop-factors-test.false,
      c.loop-factors.auto.factors-index-end,
      count,
      ap length c.deref-factors-items.ensures.value,
    ) in
    c.loop-factors.invariant ∙ ap (λ m. map (λ i. map k.inv (f i)) (range_with_len 0 m)) end
