-- The pole of a selector, the normalisation of a Lagrange polynomial, and the single-point
-- vanishing function.
use Rattle.std.specs.Prelude.{◌≡◌, ◌≢◌, ℕ, ◌+◌, ◌-◌, ◌*◌, ◌^◌, ◌≤◌, [], ◌∷◌, refl}
use Rattle.std.proofs.Common.{zero, suc, sym, ◌∙◌, ap, arith}
use Rattle.std.proofs.Math.Nat.{pow-suc}
use Rattle.circle_field.specs.Field.{FieldOps, FieldLaws, nth_power, two, sub}
use Rattle.circle_field.specs.Circle.{Coordinates, IsOnCircle, times}
use Rattle.circle_field.specs.CircleGroup.{same_coordinates}
use Rattle.circle_field.specs.Ring.{Expr, var, con, unit, plus as sum, times as prod, minus}
use Rattle.circle_field.specs.RingSound.{ring}
use Rattle.circle_field.specs.RingCombine.{given, combine}
use Rattle.circle_field.proofs.Inverses.{nonzero_product}
use Rattle.circle_field.proofs.Powers.{nth_power-+}
use Rattle.circle_point.specs.Basis.{iterated_x, vanishing, vanishing_product}
use Rattle.circle_point.specs.Projective.{half_turn}
use Rattle.circle_point.proofs.Multiples.{times-one, times-+, iterated_x-times}

module _ {F : Type 0} {k : FieldOps F} (laws : FieldLaws k) where
  -- the half turn is the only point with x = -1
  pub not_infinite : (d : Coordinates F) → IsOnCircle k d → d ≢ half_turn k → d.x ≢ k.neg k.one
  not_infinite d on_circle h = λ e.
      let y_nonzero : d.y ≢ k.zero = λ z. h (same_coordinates e z) in
      let x : Expr = var 0 in let y : Expr = var 1 in
      nonzero_product laws d.y d.y y_nonzero y_nonzero
      (combine laws.ring (d.x ∷ d.y ∷ []) (prod y y) (con 0)
      (given unit (sum (prod x x) (prod y y)) unit
      ∷ given (minus (sum x (minus unit))) x (minus unit) ∷ []) refl (on_circle, (e, tt)))

  -- the y coordinate of the multiple by 2^m
  pub y_multiple : (m : ℕ) (p : Coordinates F) → IsOnCircle k p → (times k (2 ^ m) p).y
      ≡ k.mul (nth_power k (two k) m) (k.mul (vanishing_product k m p) p.y)
  y_multiple zero p h =
      ap (λ (q : Coordinates F). q.y) (times-one laws.ring p) ∙ sym (laws.ring.one_mul p.y)
      ∙ sym (laws.ring.one_mul (k.mul k.one p.y))
  y_multiple (suc m) p h =
      let q = times k (2 ^ m) p in
      let e : 2 ^ suc m ≡ 2 ^ m + 2 ^ m = omega (arith, pow-suc 2 m) in
      let first : suc m - 1 ≡ m = omega arith in
      let x : q.x ≡ vanishing k (suc m) p = sym (iterated_x-times laws.ring m p h)
      ∙ ap (λ n. iterated_x k n p.x) (sym first) in
      let c = nth_power k (two k) m in
      let v = vanishing_product k m p in
      ap (λ n. (times k n p).y) e
      ∙ ap (λ (r : Coordinates F). r.y) (times-+ laws.ring (2 ^ m) (2 ^ m) p)
      ∙ ap (λ y. k.add (k.mul q.x y) (k.mul y q.x)) (y_multiple m p h)
      ∙ ap (λ x. k.add (k.mul x (k.mul c (k.mul v p.y))) (k.mul (k.mul c (k.mul v p.y)) x)) x
      ∙ ring laws.ring (vanishing k (suc m) p ∷ c ∷ v ∷ p.y ∷ [])
      (sum (prod (var 0) (prod (var 1) (prod (var 2) (var 3))))
      (prod (prod (var 1) (prod (var 2) (var 3))) (var 0)))
      (prod (prod (sum unit unit) (var 1)) (prod (prod (var 2) (var 0)) (var 3))) refl

  -- -2^(2n - 1) v_1 .. v_(n-1) y is -2^n times the y coordinate of the multiple by 2^(n-1)
  pub normalisation : (n : ℕ) (p : Coordinates F) → 1 ≤ n → IsOnCircle k p →
      k.mul (k.neg (k.mul (vanishing_product k (n - 1) p) (nth_power k (two k) (2 * n - 1)))) p.y
      ≡ k.neg (k.mul (nth_power k (two k) n) (times k (2 ^ (n - 1)) p).y)
  normalisation n p positive h =
      let v = vanishing_product k (n - 1) p in
      let a = nth_power k (two k) n in
      let b = nth_power k (two k) (n - 1) in
      let split : nth_power k (two k) (2 * n - 1) ≡ k.mul a b =
      ap (nth_power k (two k)) (let e : 2 * n - 1 ≡ n + (n - 1) = omega arith in e)
      ∙ nth_power-+ laws.ring (two k) n (n - 1) in
      ap (λ c. k.mul (k.neg (k.mul v c)) p.y) split
      ∙ ring laws.ring (v ∷ a ∷ b ∷ p.y ∷ [])
      (prod (minus (prod (var 0) (prod (var 1) (var 2)))) (var 3))
      (minus (prod (var 1) (prod (var 2) (prod (var 0) (var 3))))) refl
      ∙ ap (λ y. k.neg (k.mul a y)) (sym (y_multiple (n - 1) p h))

  -- re^2 + im^2 = 2 re for re = 1 - x, im = -y
  pub vanishing_norm : (d : Coordinates F) → IsOnCircle k d →
      k.add (k.mul (sub k k.one d.x) (sub k k.one d.x)) (k.mul (k.neg d.y) (k.neg d.y))
      ≡ k.add (sub k k.one d.x) (sub k k.one d.x)
  vanishing_norm d h =
      let x : Expr = var 0 in let y : Expr = var 1 in
      let re : Expr = sum unit (minus x) in
      combine laws.ring (d.x ∷ d.y ∷ []) (sum (prod re re) (prod (minus y) (minus y))) (sum re re)
      (given unit (sum (prod x x) (prod y y)) unit ∷ []) refl (h, tt)
