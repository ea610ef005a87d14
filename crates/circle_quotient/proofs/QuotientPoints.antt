-- The points of the quotient's domain are clear of the trace's, as its selectors there require.
use Rattle.std.specs.Prelude.{Bool, true, ◌≡◌, ◌≢◌, ◌↔◌, ℕ, ◌+◌, ◌-◌, ◌^◌, ◌<◌, ◌≤◌, All, [], ◌∷◌}
use Rattle.std.specs.Prelude.{Some, slice_get}
use Rattle.std.proofs.Common.{zero, suc, sym, ◌∙◌, ap, refl, subst, arith}
use Rattle.std.proofs.lemmas.Option.{get_or_from_slice_get}
use Rattle.circle_field.specs.Extension.{identity_embedding}
use Rattle.circle_field.specs.Field.{FieldOps, FieldLaws, sub}
use Rattle.circle_field.specs.Ring.{var, con, plus as sum, minus}
use Rattle.circle_field.specs.RingCombine.{combine}
use Rattle.circle_field.specs.Circle.{Coordinates, AreGenerators}
use Rattle.circle_point.specs.Basis.{iterated_x, vanishing}
use Rattle.circle_domain.specs.Clear.{IsClearOf}
use Rattle.circle_domain.specs.Domain.{log_size, shift_of, points_of}
use Rattle.circle_domain.specs.Order.{natural_order}
use Rattle.circle_domain.specs.Selectors.{vanishing_on}
use Rattle.circle_domain.specs.declared.domain.CircleDomain.{CircleDomain}
use Rattle.circle_domain.proofs.PartLists.{length-natural_order}
use Rattle.circle_domain.proofs.Walking.{standard-at, standard-point}
use Rattle.circle_quotient.proofs.FitPoints.{clear-where}
use Rattle.circle_quotient.proofs.PartValues.{large, vanishing-nonzero}
use Rattle.circle_quotient.proofs.Places.{point-on}
use Rattle.circle_quotient.proofs.Selecting.{at_shift}

-- the points of a standard domain
pub standard-points : {F : Type 0} {g : _} (k : FieldOps F) (gen : ℕ → Coordinates F)
    (d : CircleDomain F g) (n : ℕ) → log_size d ≡ n → shift_of d ≡ gen (n + 1) →
    points_of k gen d ≡ natural_order k gen n (gen (n + 1))
standard-points k gen d n size shift =
    ap (λ m. natural_order k gen m (shift_of d)) size ∙ ap (natural_order k gen n) shift

module _ {F : Type 0} {k : FieldOps F} (laws : FieldLaws k) {gen : ℕ → Coordinates F} {bits : ℕ}
    (gens : AreGenerators k bits gen) where
  -- the vanishing polynomial is 0 at the shift
  pub shift-vanishing : (n : ℕ) → 1 ≤ n → n < bits → vanishing k n (gen (n + 1)) ≡ k.zero
  shift-vanishing zero positive fits = absurd (omega (arith, positive))
  shift-vanishing (suc j) positive fits =
      let same : suc j - 1 ≡ j = omega arith in
      ap (λ r. iterated_x k r (gen (suc j + 1)).x) same ∙ at_shift laws gens j fits

  -- and nowhere 0 on the quotient's domain
  pub standard-vanishing : (n kk : ℕ) → 1 ≤ n → 1 ≤ kk → n + kk < bits →
      (i : ℕ) (s : Coordinates F) →
      slice_get (natural_order k gen (n + kk) (gen (n + kk + 1))) i ≡ Some s →
      (vanishing_on k n (gen (n + 1)) s ≡ vanishing k n s) × (vanishing k n s ≢ k.zero)
  standard-vanishing zero kk positive some fits i s here = absurd (omega (arith, positive))
  standard-vanishing (suc j) kk positive some fits i s here =
      let same : suc j - 1 ≡ j = omega arith in
      let there = standard-at laws.ring gens (suc j + kk) (omega arith) fits i s here in (
        ap (sub k (vanishing k (suc j) s)) (shift-vanishing (suc j) positive (omega (arith, fits)))
            ∙ combine laws.ring (vanishing k (suc j) s ∷ []) (sum (var 0) (minus (con 0))) (var 0)
            [] refl tt,
        λ z. vanishing-nonzero laws gens j kk some fits i
            (ap (λ (q : Coordinates F). iterated_x k j q.x) (sym there)
            ∙ ap (λ r. iterated_x k r s.x) (sym same) ∙ z),
      )

module _ {F : Type 0} {k : FieldOps F} (laws : FieldLaws k) {gen : ℕ → Coordinates F} {bits : ℕ}
    (gens : AreGenerators k bits gen) (eq : F → F → Bool)
    (law : (a b : F) → (eq a b ≡ true) ↔ (a ≡ b)) where
  pub quotient-clear : (n kk : ℕ) → 1 ≤ n → 1 ≤ kk → n + kk < bits →
      All (IsClearOf k (λ x. x) (natural_order k gen n (gen (n + 1))))
      (natural_order k gen (n + kk) (gen (n + kk + 1)))
  quotient-clear zero kk positive some fits = absurd (omega (arith, positive))
  quotient-clear (suc j) kk positive some fits = λ i d lt.
      let n = suc j + kk in
      let points = natural_order k gen n (gen (n + 1)) in
      let own : 1 ≤ n = omega arith in
      let p = large laws gens j kk some fits i in
      let e : suc j - 1 ≡ j = omega arith in
      let below : i < 2 ^ n =
      omega (arith, lt, length-natural_order k gen n (gen (n + 1)) own) in
      subst (IsClearOf k (λ x. x) (natural_order k gen (suc j) (gen (suc j + 1))))
      (sym (get_or_from_slice_get points i p d (standard-point laws.ring gens n own fits i below)))
      (clear-where laws laws (identity_embedding k) gens eq law (suc j) positive
      (omega (arith, fits)) p (point-on laws gens n own fits i)
      (λ z. vanishing-nonzero laws gens j kk some fits i
      (ap (λ r. iterated_x k r p.x) (sym e) ∙ z)))
