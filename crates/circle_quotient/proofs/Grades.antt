-- Notions of the degree of a function on the circle, under which constraints can be counted.
use Rattle.std.specs.Prelude.{◌≡◌, ℕ, ◌+◌, ◌*◌, ◌≤◌}
use Rattle.std.proofs.Common.{suc, ap, subst, arith}
use Rattle.circle_field.specs.Field.{FieldOps, FieldLaws}
use Rattle.circle_field.specs.Circle.{Coordinates, IsOnCircle}
use Rattle.circle_quotient.proofs.Fits.{Fits, fits-constant, fits-combined, fits-raised}
use Rattle.circle_quotient.proofs.Fits.{fits-product, fits-same}
use Rattle.circle_quotient.proofs.Forms.{HasForm, form-constant, form-combined, form-raised}
use Rattle.circle_quotient.proofs.Forms.{form-product, form-same}

-- functions of degrees that add up under products
pub record IsGraded {E : Type 0} (l : FieldOps E)
    (Of : ℕ → (Coordinates E → E) → Type 0) : Type 0 where
  pub constant : (a : E) → Of 0 (λ p. a)
  pub combined : (e : ℕ) (u v : E) (f g : Coordinates E → E) → Of e f → Of e g →
      Of e (λ p. l.add (l.mul u (f p)) (l.mul v (g p)))
  pub raised : (d e e' : ℕ) (f : Coordinates E → E) → e' ≡ d + e → Of e f → Of e' f
  pub product : (e e' : ℕ) (f g : Coordinates E → E) → Of e f → Of e' g →
      Of (e + e') (λ p. l.mul (f p) (g p))
  pub same : (e : ℕ) (f g : Coordinates E → E) → Of e f →
      ((p : Coordinates E) → IsOnCircle l p → g p ≡ f p) → Of e g

-- with the highest power of x of so many columns, which is a multiple of a vanishing polynomial
abbrev pub FitsWide : {E : Type 0} → FieldOps E → ℕ → ℕ → (Coordinates E → E) → Type 0
FitsWide l m e f = HasForm l (e * m + 1) (e * m) f

module _ {E : Type 0} {l : FieldOps E} (laws : FieldLaws l) (m : ℕ) (positive : 1 ≤ m) where
  pub fits : IsGraded l (Fits l m)
  fits = record {
    constant = fits-constant laws m;
    combined = fits-combined laws m;
    raised = fits-raised laws m positive;
    product = fits-product laws m positive;
    same = fits-same laws m;
  }

  pub wide : IsGraded l (FitsWide l m)
  wide = record {
    constant = λ a.
        let one : suc (0 * m) ≡ 0 * m + 1 = omega arith in
        subst (λ i. HasForm l i (0 * m) (λ p. a)) one (form-constant laws (0 * m) (0 * m) a);
    combined = λ e. form-combined laws (e * m + 1) (e * m);
    raised = λ d e e' f h s.
        let grown : e' * m ≡ d * m + e * m = omega (arith, ap (λ i. i * m) h) in
        form-raised laws (e * m + 1) (e * m) (e' * m + 1) (e' * m) f (omega (arith, grown))
        (omega (arith, grown)) s;
    product = λ e e' f g s t.
        let joined : (e + e') * m ≡ e * m + e' * m = omega arith in
        form-product laws (e * m + 1) (e * m) (e' * m + 1) (e' * m) ((e + e') * m + 1)
        ((e + e') * m) f g (λ a b. omega (arith, joined)) (λ a b. omega (arith, joined))
        (λ a b. omega (arith, joined)) (λ a b. omega (arith, joined)) s t;
    same = λ e f g s h. form-same laws (e * m + 1) (e * m) f g s h;
  }
