-- On a genuine domain a polynomial's values determine its coefficients.
use Rattle.std.specs.Prelude.{◌≡◌, ◌≢◌, ℕ, ◌^◌, ◌≤◌, List, length, map}
use Rattle.std.proofs.Common.{sym, ◌∙◌, ap, arith}
use Rattle.circle_field.specs.Field.{FieldOps, FieldLaws}
use Rattle.circle_field.specs.Circle.{Coordinates, IsOnCircle, AreGenerators, times, origin}
use Rattle.circle_point.specs.Basis.{value}
use Rattle.circle_domain.specs.Order.{cfft_order}
use Rattle.circle_domain.proofs.Blocks.{points-cfft_order}
use Rattle.circle_domain.proofs.Inversion.{finish-injective}
use Rattle.circle_domain.proofs.Transform.{finish-value}

module _ {F : Type 0} {k : FieldOps F} (laws : FieldLaws k) {gen : ℕ → Coordinates F} {bits : ℕ}
    (gens : AreGenerators k bits gen)
    (n : ℕ) (s : Coordinates F) (fits : n ≤ bits) (on_circle : IsOnCircle k s)
    (genuine : times k (2 ^ n) s ≢ origin k) where
  -- no other coefficients have the same values
  pub values-tell : (xs ys : List F) → 1 ≤ n → length xs ≡ 2 ^ n → length ys ≡ 2 ^ n →
      map (value k xs) (cfft_order k gen n s) ≡ map (value k ys) (cfft_order k gen n s) → xs ≡ ys
  values-tell xs ys positive a b e =
      let p = points-cfft_order k gen n s positive in
      finish-injective laws gens n s xs ys a b (omega (arith, fits)) on_circle genuine
      (finish-value laws.ring gens n s xs a (omega (arith, fits)) on_circle
      ∙ ap (map (value k xs)) p ∙ e ∙ ap (map (value k ys)) (sym p)
      ∙ sym (finish-value laws.ring gens n s ys b (omega (arith, fits)) on_circle))
