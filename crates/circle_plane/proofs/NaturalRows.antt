-- Coefficients of rows in natural order.
use Rattle.std.specs.Prelude.{◌≡◌, ◌≢◌, ℕ, ◌^◌, ◌≤◌, List, length, map}
use Rattle.std.proofs.Common.{suc, sym, ◌∙◌, ap, subst, arith}
use Rattle.circle_field.specs.Field.{FieldOps, RingLaws, FieldLaws}
use Rattle.circle_field.specs.Circle.{Coordinates, IsOnCircle, AreGenerators, origin, times}
use Rattle.circle_point.specs.Basis.{value}
use Rattle.circle_domain.specs.Order.{natural_order}
use Rattle.circle_domain.specs.Ordering.{other_order, reordered}
use Rattle.circle_domain.specs.Values.{HasValues, Interpolates, values_at}
use Rattle.circle_domain.proofs.CosetOrder.{other_order-points}
use Rattle.circle_domain.proofs.NaturalValues.{reordered-points}
use Rattle.circle_domain.proofs.OtherOrder.{other_order-twice}
use Rattle.circle_domain.proofs.Told.{values-tell}

-- no other coefficients have these values
pub one-only : {F : Type 0} {k : FieldOps F} (laws : FieldLaws k) {gen : ℕ → Coordinates F}
    {bits : ℕ} (gens : AreGenerators k bits gen)
    (n : ℕ) (s : Coordinates F) → 1 ≤ n → n ≤ bits → IsOnCircle k s → times k (2 ^ n) s ≢ origin k →
    (c others ws : List F) → Interpolates k gen n s c ws → Interpolates k gen n s others ws →
    c ≡ others
one-only {k = k} laws gens n s positive fits on_circle genuine c others ws has has' =
    values-tell laws gens n s fits on_circle genuine c others positive has.count has'.count
    (sym (reordered-points laws.ring gens k.zero (value k c) n s positive (omega (arith, fits)))
    ∙ ap (reordered k.zero n) (has.values ∙ sym has'.values)
    ∙ reordered-points laws.ring gens k.zero (value k others) n s positive (omega (arith, fits)))

module _ {F : Type 0} {k : FieldOps F} (laws : RingLaws k) {gen : ℕ → Coordinates F} {bits : ℕ}
    (gens : AreGenerators k bits gen)
    (n : ℕ) (s : Coordinates F) (positive : 1 ≤ n) (fits : n ≤ suc bits) (width : ℕ)
    (coeffs rows : List (List F)) (long : length rows ≡ 2 ^ n) where
  natural-values : HasValues k gen n s width coeffs (other_order n rows) →
      map (values_at k coeffs width) (natural_order k gen n s) ≡ rows
  natural-values has =
      sym (other_order-points laws gens (values_at k coeffs width) n s positive fits)
      ∙ ap (other_order n) has.values ∙ other_order-twice n rows long

  -- the values of coefficients whose values in the transform's order are these rows in the other
  -- order
  pub natural-values-of : (m : ℕ) (t : Coordinates F) (w : ℕ) (all : List (List F)) → m ≡ n →
      t ≡ s → w ≡ width → all ≡ other_order n rows →
      HasValues k gen m t w coeffs all → map (values_at k coeffs width) (natural_order k gen n s)
      ≡ rows
  natural-values-of m t w all e_m e_t e_w e_all has =
      natural-values
      (subst (HasValues k gen n s width coeffs) e_all
      (subst (λ x. HasValues k gen n s x coeffs all) e_w
      (subst (λ q. HasValues k gen n q w coeffs all) e_t
      (subst (λ i. HasValues k gen i t w coeffs all) e_m has))))
