-- Functions on the circle by their degree, counted in halves of a trace's height: a column has
-- degree 1, and a product the sum of the degrees of its factors.
use Rattle.std.specs.Prelude.{◌≡◌, ℕ, ◌+◌, ◌-◌, ◌*◌, ◌%◌, ◌≤◌, nat_eq, if◌then◌else◌}
use Rattle.std.proofs.Common.{zero, suc, sym, refl, subst, arith, ⊎_elim}
use Rattle.std.proofs.lemmas.Bool.{cases_eq}
use Rattle.circle_field.specs.Field.{FieldOps, FieldLaws}
use Rattle.circle_field.specs.Circle.{Coordinates, IsOnCircle}
use Rattle.circle_quotient.proofs.Forms.{HasForm, form-product, form-raised, form-constant}
use Rattle.circle_quotient.proofs.Forms.{form-combined, form-same}

-- how many coefficients both parts have: e M where e is odd, one more and one fewer where it is
-- even
abbrev pub first_count : ℕ → ℕ → ℕ
first_count m e = if nat_eq (e % 2) 0 then e * m + 1 else e * m

abbrev pub second_count : ℕ → ℕ → ℕ
second_count m e = if nat_eq (e % 2) 0 then e * m - 1 else e * m

abbrev pub Fits : {E : Type 0} → FieldOps E → ℕ → ℕ → (Coordinates E → E) → Type 0
Fits l m e f = HasForm l (first_count m e) (second_count m e) f

-- what the counts are
record Counts (m e a b : ℕ) : Type 0 where
  first : a ≡ first_count m e
  second : b ≡ second_count m e

even_counts : (m e : ℕ) → e % 2 ≡ 0 → Counts m e (e * m + 1) (e * m - 1)
even_counts m e even = record { first = grind (arith, even); second = grind (arith, even) }

odd_counts : (m e : ℕ) → (e % 2 ≡ 0 → ⊥) → Counts m e (e * m) (e * m)
odd_counts m e odd = record { first = grind (arith, odd); second = grind (arith, odd) }

module _ {E : Type 0} {l : FieldOps E} (laws : FieldLaws l) (m : ℕ) where
  counted : (e a b : ℕ) (f : Coordinates E → E) → Counts m e a b → HasForm l a b f → Fits l m e f
  counted e a b f c s =
      subst (λ i. HasForm l i (second_count m e) f) c.first
      (subst (λ i. HasForm l a i f) c.second s)

  form-of : (e a b : ℕ) (f : Coordinates E → E) → Counts m e a b → Fits l m e f → HasForm l a b f
  form-of e a b f c s =
      subst (λ i. HasForm l i b f) (sym c.first)
      (subst (λ i. HasForm l (first_count m e) i f) (sym c.second) s)

  pub form-of_odd : (e : ℕ) (f : Coordinates E → E) → (e % 2 ≡ 0 → ⊥) → Fits l m e f →
      HasForm l (e * m) (e * m) f
  form-of_odd e f odd s = form-of e (e * m) (e * m) f (odd_counts m e odd) s

  pub fits-constant : (a : E) → Fits l m 0 (λ p. a)
  fits-constant a =
      counted 0 1 0 (λ p. a) (record { first = omega arith; second = omega arith })
      (form-constant laws 0 0 a)

  pub fits-one : (f : Coordinates E → E) → HasForm l m m f → Fits l m 1 f
  fits-one f s = counted 1 m m f (record { first = omega arith; second = omega arith }) s

  pub fits-combined : (e : ℕ) (u v : E) (f g : Coordinates E → E) → Fits l m e f → Fits l m e g →
      Fits l m e (λ p. l.add (l.mul u (f p)) (l.mul v (g p)))
  fits-combined e u v f g s t = form-combined laws (first_count m e) (second_count m e) u v f g s t

  pub fits-same : (e : ℕ) (f g : Coordinates E → E) → Fits l m e f →
      ((p : Coordinates E) → IsOnCircle l p → g p ≡ f p) → Fits l m e g
  fits-same e f g s h = form-same laws (first_count m e) (second_count m e) f g s h

  module _ (positive : 1 ≤ m) where
    -- a function of a degree has each greater one
    fits-next : (e : ℕ) (f : Coordinates E → E) → Fits l m e f → Fits l m (suc e) f
    fits-next e f s =
        let grown : suc e * m ≡ e * m + m = omega arith in
        ⊎_elim
        (λ even.
        counted (suc e) (suc e * m) (suc e * m) f
        (odd_counts m (suc e) (λ o. omega (arith, even, o)))
        (form-raised laws (e * m + 1) (e * m - 1) (suc e * m) (suc e * m) f
        (omega (arith, grown, positive)) (omega (arith, grown))
        (form-of e (e * m + 1) (e * m - 1) f (even_counts m e even) s)))
        (λ odd.
        counted (suc e) (suc e * m + 1) (suc e * m - 1) f
        (even_counts m (suc e) (omega (arith, odd)))
        (form-raised laws (e * m) (e * m) (suc e * m + 1) (suc e * m - 1) f (omega (arith, grown))
        (omega (arith, grown, positive)) (form-of e (e * m) (e * m) f (odd_counts m e odd) s)))
        (cases_eq (e % 2) 0)

    pub fits-raised : (d e e' : ℕ) (f : Coordinates E → E) → e' ≡ d + e → Fits l m e f →
        Fits l m e' f
    fits-raised zero e e' f h s = let same : e ≡ e' = omega (arith, h) in
        subst (λ i. Fits l m i f) same s
    fits-raised (suc d) e e' f h s = let same : suc (d + e) ≡ e' = omega (arith, h) in
        subst (λ i. Fits l m i f) same (fits-next (d + e) f (fits-raised d e (d + e) f refl s))

    pub fits-product : (e e' : ℕ) (f g : Coordinates E → E) → Fits l m e f → Fits l m e' g →
        Fits l m (e + e') (λ p. l.mul (f p) (g p))
    fits-product e e' f g s t =
        let h = λ (p : Coordinates E). l.mul (f p) (g p) in
        let joined : (e + e') * m ≡ e * m + e' * m = omega arith in
        ⊎_elim
        (λ even.
        let first = form-of e (e * m + 1) (e * m - 1) f (even_counts m e even) s in
        ⊎_elim
        (λ even'.
        counted (e + e') ((e + e') * m + 1) ((e + e') * m - 1) h
        (even_counts m (e + e') (omega (arith, even, even')))
        (form-product laws (e * m + 1) (e * m - 1) (e' * m + 1) (e' * m - 1) ((e + e') * m + 1)
        ((e + e') * m - 1) f g (λ a b. omega (arith, joined)) (λ a b. omega (arith, joined, a, b))
        (λ a b. omega (arith, joined, b)) (λ a b. omega (arith, joined, a)) first
        (form-of e' (e' * m + 1) (e' * m - 1) g (even_counts m e' even') t)))
        (λ odd'.
        counted (e + e') ((e + e') * m) ((e + e') * m) h
        (odd_counts m (e + e') (λ o. omega (arith, even, odd', o)))
        (form-product laws (e * m + 1) (e * m - 1) (e' * m) (e' * m) ((e + e') * m)
        ((e + e') * m) f g (λ a b. omega (arith, joined)) (λ a b. omega (arith, joined, a, b))
        (λ a b. omega (arith, joined, b)) (λ a b. omega (arith, joined, a)) first
        (form-of e' (e' * m) (e' * m) g (odd_counts m e' odd') t)))
        (cases_eq (e' % 2) 0))
        (λ odd.
        let first = form-of e (e * m) (e * m) f (odd_counts m e odd) s in
        ⊎_elim
        (λ even'.
        counted (e + e') ((e + e') * m) ((e + e') * m) h
        (odd_counts m (e + e') (λ o. omega (arith, even', odd, o)))
        (form-product laws (e * m) (e * m) (e' * m + 1) (e' * m - 1) ((e + e') * m)
        ((e + e') * m) f g (λ a b. omega (arith, joined)) (λ a b. omega (arith, joined, a, b))
        (λ a b. omega (arith, joined, b)) (λ a b. omega (arith, joined, a)) first
        (form-of e' (e' * m + 1) (e' * m - 1) g (even_counts m e' even') t)))
        (λ odd'.
        counted (e + e') ((e + e') * m + 1) ((e + e') * m - 1) h
        (even_counts m (e + e') (omega (arith, odd, odd')))
        (form-product laws (e * m) (e * m) (e' * m) (e' * m) ((e + e') * m + 1)
        ((e + e') * m - 1) f g (λ a b. omega (arith, joined)) (λ a b. omega (arith, joined, a, b))
        (λ a b. omega (arith, joined, b)) (λ a b. omega (arith, joined, a)) first
        (form-of e' (e' * m) (e' * m) g (odd_counts m e' odd') t)))
        (cases_eq (e' % 2) 0))
        (cases_eq (e % 2) 0)
