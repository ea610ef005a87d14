-- Inverses in a quadratic extension by X^2 = -1, where -1 is no square.
use Rattle.std.specs.Prelude.{◌≡◌, ◌≢◌, ◌⊎◌, List, [], ◌∷◌, refl}
use Rattle.std.proofs.Common.{ap, inl, inr}
use Rattle.circle_field.specs.Field.{FieldOps, FieldLaws}
use Rattle.circle_field.specs.Ring.{Expr, var, con, unit, plus, times, minus}
use Rattle.circle_field.specs.RingCombine.{given, combine}
use Rattle.circle_field.specs.Carried.{zero_square}
use Rattle.circle_field.specs.CubicLaws.{expr}
use Rattle.test_schemes.specs.QuadraticField.{Pair, multiple, constant, product, conjugate, norm}
use Rattle.test_schemes.specs.QuadraticField.{quadratic}
use Rattle.test_schemes.specs.QuadraticLaws.{same_pair, quadratic_ring, x}

module _ {F : Type 0} {k : FieldOps F} (laws : FieldLaws k) where
  module _ (decide : (a : F) → (a ≡ k.zero) ⊎ (a ≢ k.zero)) where
    module _ (no_square : (b : F) → k.mul b b ≢ k.neg k.one) where
      -- the coefficients of an element
      abbrev values : Pair F → List F
      values a = a.c0 ∷ a.c1 ∷ []

      -- -1 would be the square of a0 / a1
      quotient_square : (a : Pair F) → norm k a ≡ k.zero → a.c1 ≢ k.zero →
          k.mul (k.mul a.c0 (k.inv a.c1)) (k.mul a.c0 (k.inv a.c1)) ≡ k.neg k.one
      quotient_square a h nonzero =
          let i : Expr = var 2 in
          let q : Expr = times x.c0 i in let p : Expr = times x.c1 i in
          combine laws.ring (a.c0 ∷ a.c1 ∷ k.inv a.c1 ∷ []) (times q q) (minus unit)
          (given (times i i) (norm expr x) (con 0) ∷ given (minus (plus p unit)) p unit ∷ []) refl
          (h, (laws.mul_inv a.c1 nonzero, tt))

      last_zero : (a : Pair F) → norm k a ≡ k.zero → a.c1 ≡ k.zero
      last_zero a h = elim (decide a.c1) [
        | inl e ↦ e
        | inr n ↦ absurd (no_square (k.mul a.c0 (k.inv a.c1)) (quotient_square a h n))
      ]

      -- the norm is 0 at 0 alone
      pub norm_zero : (a : Pair F) → norm k a ≡ k.zero → a ≡ constant k k.zero
      norm_zero a h =
          let e1 : a.c1 ≡ k.zero = last_zero a h in
          let e0 : a.c0 ≡ k.zero =
          zero_square laws decide a.c0 (combine laws.ring (values a) (times x.c0 x.c0) (con 0)
          (given unit (norm expr x) (con 0) ∷ given (minus x.c1) x.c1 (con 0) ∷ []) refl
          (h, (e1, tt))) in
          same_pair e0 e1

      -- an element times its inverse, where i is the norm's
      unit_product : (a : Pair F) (i : F) → k.mul (norm k a) i ≡ k.one →
          product k a (multiple k i (conjugate k a)) ≡ constant k k.one
      unit_product a i h =
          let i' : Expr = var 2 in
          let env : List F = a.c0 ∷ a.c1 ∷ i ∷ [] in
          let p : Pair Expr = product expr x (multiple expr i' (conjugate expr x)) in
          same_pair
          (combine laws.ring env p.c0 unit (given unit (times (norm expr x) i') unit ∷ []) refl
          (h, tt))
          (combine laws.ring env p.c1 (con 0) [] refl tt)

      -- the laws of the extension
      pub quadratic_laws : FieldLaws (quadratic k)
      quadratic_laws = record {
        ring = quadratic_ring laws.ring;
        mul_inv =
            λ a nonzero. unit_product a (k.inv (norm k a))
            (laws.mul_inv (norm k a) (λ h. nonzero (norm_zero a h)));
        two_nonzero = λ h. laws.two_nonzero (ap (λ t. t.c0) h);
      }

      -- the norm of 0 is 0
      pub norm_of_zero : norm k (constant k k.zero) ≡ k.zero
      norm_of_zero =
          let o : Pair Expr = constant expr (con 0) in
          combine laws.ring [] (norm expr o) (con 0) [] refl tt
