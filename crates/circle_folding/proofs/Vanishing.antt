-- Where the vanishing function of a point vanishes.
use Rattle.std.specs.Prelude.{◌≡◌, ◌↔◌, Bool, true, [], ◌∷◌, refl}
use Rattle.std.proofs.Common.{sym, ◌∙◌, ap}
use Rattle.circle_field.specs.Field.{FieldOps, FieldLaws, sub}
use Rattle.circle_field.specs.Circle.{Coordinates, IsOnCircle, origin, plus, opposite}
use Rattle.circle_field.specs.CircleGroup.{same_coordinates, plus_assoc, plus-opposite, plus-origin}
use Rattle.circle_field.specs.CircleGroup.{plus_comm, plus-on_circle, opposite-on_circle}
use Rattle.circle_field.specs.Ring.{Expr, var, con, unit, plus as sum, times as prod, minus}
use Rattle.circle_field.specs.RingCombine.{given, combine}
use Rattle.circle_field.specs.RingFacts.{zero_mul, neg_zero_cancel, add_neg, add_zero}
use Rattle.circle_field.proofs.Halves.{half_unique}
use Rattle.circle_point.proofs.Multiples.{origin-plus}
use Rattle.circle_domain.proofs.Walking.{zero_square}

module _ {F : Type 0} {k : FieldOps F} (laws : FieldLaws k) (eq : F → F → Bool)
    (eq_law : (a b : F) → (eq a b ≡ true) ↔ (a ≡ b)) where
  -- (1, 0) is the only point with x = 1
  only_origin : (d : Coordinates F) → IsOnCircle k d → d.x ≡ k.one → d ≡ origin k
  only_origin d on_circle e =
      let x : Expr = var 0 in let y : Expr = var 1 in
      let square : k.mul d.y d.y ≡ k.zero =
      combine laws.ring (d.x ∷ d.y ∷ []) (prod y y) (con 0)
      (given unit (sum (prod x x) (prod y y)) unit ∷ given (minus (sum x unit)) x unit ∷ []) refl
      (on_circle, (e, tt)) in
      same_coordinates e (zero_square laws eq eq_law d.y square)

  -- twice the real part is 0 at the point itself alone
  pub real_part-zero : (p z : Coordinates F) → IsOnCircle k p → IsOnCircle k z →
      let re = sub k k.one (plus k (opposite k z) p).x in k.add re re ≡ k.zero → p ≡ z
  real_part-zero p z hp hz twice =
      let d = plus k (opposite k z) p in
      let re : sub k k.one d.x ≡ k.zero = half_unique laws k.zero (sub k k.one d.x) twice
      ∙ zero_mul laws.ring _ in
      let on_circle = plus-on_circle laws.ring (opposite k z) p (opposite-on_circle laws.ring z hz)
      hp in
      let none : d ≡ origin k = only_origin
      d on_circle (sym (neg_zero_cancel laws.ring k.one d.x re)) in
      sym (origin-plus laws.ring p) ∙ ap (λ o. plus k o p) (sym (plus-opposite laws.ring z hz))
      ∙ plus_assoc laws.ring z (opposite k z) p ∙ ap (plus k z) none ∙ plus-origin laws.ring z

  pub zero-real_part : (p z : Coordinates F) → IsOnCircle k z → p ≡ z → let re =
      sub k k.one (plus k (opposite k z) p).x in k.add re re ≡ k.zero
  zero-real_part p z hz same =
      let none : plus k (opposite k z) p ≡ origin k = ap (plus k (opposite k z)) same
      ∙ plus_comm laws.ring (opposite k z) z ∙ plus-opposite laws.ring z hz in
      ap (λ (d : Coordinates F). let re = sub k k.one d.x in k.add re re) none
      ∙ ap (λ r. k.add r r) (add_neg laws.ring k.one) ∙ add_zero laws.ring k.zero
