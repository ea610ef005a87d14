use Rattle.std.proofs.Common.{◌≡◌, ◌+◌, ◌<◌, ◌++◌, [], ◌∷◌, ◌∙◌, sym, ap, arith, length}
use Rattle.std.proofs.Common.{length-append, ⊎_elim}
use Rattle.std.specs.Prelude.{replicate, slice_set, slice_index_or}
use Rattle.std.proofs.lemmas.Bool.{cases_lt}
use Rattle.std.proofs.lemmas.List.{get_or_push, get_or_append_left}
use Rattle.circle_quotient.proofs.Basis.{zero-coefficients}
use Rattle.circle_quotient.proofs.recomposition.basis.Goals as goal

pub loop-i-preserved : goal.loop-i-preserved
loop-i-preserved g c =
    let k = g.F.Operations.ops in
    let coefficients = g.EF.ExtensionField.coefficients in
    let degree = g.EF.ExtensionField.DEGREE in
    let n = c.loop-i.i in
    let made = c.loop-i.made.items in
    let element = c.with_coefficient.result in
    let appended : c.push.new.self.items ≡ made ++ element ∷ [] = c.in_ok-push.ensures.items in
    let here : coefficients element ≡ slice_set (replicate degree k.zero) n k.one =
    c.with_coefficient.ensures
    ∙ ap (λ (x : g.row.EF.Denot). slice_set (coefficients x) n c.ONE.result)
    (c.ZERO.ensures ∙ g.met.EF.Field.zero_law)
    ∙ ap (λ cs. slice_set cs n c.ONE.result)
    (zero-coefficients g.F.Operations.laws g.EF.Operations.laws g.met.EF.ExtensionField.embedding
    g.met.EF.ExtensionField.are_coefficients)
    ∙ ap (slice_set (replicate degree k.zero) n) (c.ONE.ensures ∙ g.met.F.Field.one_law) in
    record {
      count = ap length appended ∙ length-append made (element ∷ [])
          ∙ ap (λ m. m + 1) c.loop-i.invariant.count;
      each = λ i d lt. ap (λ (items : _). coefficients (slice_index_or items i d)) appended
          ∙ ⊎_elim
          (λ (low : i < n). ap coefficients (get_or_append_left made (element ∷ []) d i
          (omega (arith, low, c.loop-i.invariant.count)))
          ∙ c.loop-i.invariant.each i d low)
          (λ high.
          let e : i ≡ n = omega (arith, high, lt) in
          let last : i ≡ length made = omega (arith, e, c.loop-i.invariant.count) in
          ap coefficients (get_or_push made element d i (sym last)) ∙ here
          ∙ ap (λ p. slice_set (replicate degree k.zero) p k.one) (sym e))
          (cases_lt i n);
    }

pub returns : goal.returns
returns g c =
    let end : c.loop-i.i ≡ g.EF.ExtensionField.DEGREE = omega arith in
    record {
      count = c.loop-i.invariant.count ∙ end;
      each = λ i d lt. c.loop-i.invariant.each i d (omega (arith, lt, end));
    }
