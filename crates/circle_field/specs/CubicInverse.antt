-- Inverses in a cubic extension by X^3 = w, where w is no cube.
use Rattle.std.specs.Prelude.{◌≡◌, ◌≢◌, ◌⊎◌, List, [], ◌∷◌, refl}
use Rattle.std.proofs.Common.{ap, inl, inr}
use Rattle.circle_field.specs.Field.{FieldOps, FieldLaws}
use Rattle.circle_field.specs.Ring.{Expr, var, con, unit, plus, times, minus}
use Rattle.circle_field.specs.RingCombine.{given, combine}
use Rattle.circle_field.specs.Carried.{zero_square}
use Rattle.circle_field.specs.CubicField.{Triple, multiple, constant, product, adjugate, norm}
use Rattle.circle_field.specs.CubicField.{cubic}
use Rattle.circle_field.specs.CubicLaws.{same_triple, expr, cubic_ring, w, x}

module _ {F : Type 0} {k : FieldOps F} (laws : FieldLaws k) where
  module _ (decide : (a : F) → (a ≡ k.zero) ⊎ (a ≢ k.zero)) where
    module _ (v : F) (no_cube : (b : F) → k.mul b (k.mul b b) ≢ v) where
      -- w and the coefficients of an element
      abbrev values : Triple F → List F
      values a = v ∷ a.c0 ∷ a.c1 ∷ a.c2 ∷ []

      -- the cubes of a1 and a2 differ by the factor w, where the adjugate is 0
      cubes : (a : Triple F) → adjugate k v a ≡ constant k k.zero →
          k.mul a.c1 (k.mul a.c1 a.c1) ≡ k.mul v (k.mul a.c2 (k.mul a.c2 a.c2))
      cubes a h =
          let d : Triple Expr = adjugate expr w x in
          combine laws.ring (values a) (times x.c1 (times x.c1 x.c1))
          (times w (times x.c2 (times x.c2 x.c2)))
          (given x.c1 d.c2 (con 0) ∷ given (minus x.c2) d.c1 (con 0) ∷ []) refl
          (ap (λ t. t.c2) h, (ap (λ t. t.c1) h, tt))

      -- w would be the cube of a1 / a2
      quotient_cube : (b c : F) → k.mul b (k.mul b b) ≡ k.mul v (k.mul c (k.mul c c)) → c ≢ k.zero →
          k.mul (k.mul b (k.inv c)) (k.mul (k.mul b (k.inv c)) (k.mul b (k.inv c))) ≡ v
      quotient_cube b c h nonzero =
          let b' : Expr = var 1 in let c' : Expr = var 2 in let i : Expr = var 3 in
          let q : Expr = times b' i in let p : Expr = times c' i in
          combine laws.ring (v ∷ b ∷ c ∷ k.inv c ∷ []) (times q (times q q)) w
          (given (times i (times i i)) (times b' (times b' b')) (times w (times c' (times c' c')))
          ∷ given (times w (plus (times p p) (plus p unit))) p unit ∷ []) refl
          (h, (laws.mul_inv c nonzero, tt))

      -- the last coefficient is 0, where the adjugate is 0
      last_zero : (a : Triple F) → adjugate k v a ≡ constant k k.zero → a.c2 ≡ k.zero
      last_zero a h = elim (decide a.c2) [
        | inl e ↦ e
        | inr n ↦ absurd (no_cube (k.mul a.c1 (k.inv a.c2)) (quotient_cube a.c1 a.c2 (cubes a h) n))
      ]

      -- the adjugate is 0 at 0 alone
      adjugate_zero : (a : Triple F) → adjugate k v a ≡ constant k k.zero → a ≡ constant k k.zero
      adjugate_zero a h =
          let d : Triple Expr = adjugate expr w x in
          let e2 : a.c2 ≡ k.zero = last_zero a h in
          let e1 : a.c1 ≡ k.zero =
          zero_square laws decide a.c1 (combine laws.ring (values a) (times x.c1 x.c1) (con 0)
          (given unit d.c2 (con 0) ∷ given x.c0 x.c2 (con 0) ∷ []) refl
          (ap (λ t. t.c2) h, (e2, tt))) in
          let e0 : a.c0 ≡ k.zero =
          zero_square laws decide a.c0 (combine laws.ring (values a) (times x.c0 x.c0) (con 0)
          (given unit d.c0 (con 0) ∷ given (times w x.c1) x.c2 (con 0) ∷ []) refl
          (ap (λ t. t.c0) h, (e2, tt))) in
          same_triple e0 e1 e2

      -- the adjugate's adjugate is the norm times the element
      twice_zero : (a : Triple F) → norm k v a ≡ k.zero →
          adjugate k v (adjugate k v a) ≡ constant k k.zero
      twice_zero a h =
          let d : Triple Expr = adjugate expr w (adjugate expr w x) in
          let n : Expr = norm expr w x in
          same_triple
          (combine laws.ring (values a) d.c0 (con 0) (given x.c0 n (con 0) ∷ []) refl (h, tt))
          (combine laws.ring (values a) d.c1 (con 0) (given x.c1 n (con 0) ∷ []) refl (h, tt))
          (combine laws.ring (values a) d.c2 (con 0) (given x.c2 n (con 0) ∷ []) refl (h, tt))

      -- the norm is 0 at 0 alone
      pub norm_zero : (a : Triple F) → norm k v a ≡ k.zero → a ≡ constant k k.zero
      norm_zero a h = adjugate_zero a (adjugate_zero (adjugate k v a) (twice_zero a h))

      -- an element times its inverse, where i is the norm's
      unit_product : (a : Triple F) (i : F) → k.mul (norm k v a) i ≡ k.one →
          product k v a (multiple k i (adjugate k v a)) ≡ constant k k.one
      unit_product a i h =
          let i' : Expr = var 4 in
          let env : List F = v ∷ a.c0 ∷ a.c1 ∷ a.c2 ∷ i ∷ [] in
          let p : Triple Expr = product expr w x (multiple expr i' (adjugate expr w x)) in
          same_triple
          (combine laws.ring env p.c0 unit (given unit (times (norm expr w x) i') unit ∷ []) refl
          (h, tt))
          (combine laws.ring env p.c1 (con 0) [] refl tt)
          (combine laws.ring env p.c2 (con 0) [] refl tt)

      -- the laws of the extension
      pub cubic_laws : FieldLaws (cubic k v)
      cubic_laws = record {
        ring = cubic_ring laws.ring v;
        mul_inv =
            λ a nonzero. unit_product a (k.inv (norm k v a))
            (laws.mul_inv (norm k v a) (λ h. nonzero (norm_zero a h)));
        two_nonzero = λ h. laws.two_nonzero (ap (λ t. t.c0) h);
      }

      -- the norm of 0 is 0
      pub norm_of_zero : norm k v (constant k k.zero) ≡ k.zero
      norm_of_zero =
          let o : Triple Expr = constant expr (con 0) in
          combine laws.ring (v ∷ []) (norm expr w o) (con 0) [] refl tt
