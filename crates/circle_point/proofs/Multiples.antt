-- Multiples of a point.
use Rattle.std.specs.Prelude.{◌≡◌, ℕ, ◌+◌, ◌/◌, ◌%◌, ◌^◌}
use Rattle.std.proofs.Common.{zero, suc, sym, ◌∙◌, ap, refl, arith, add-one}
use Rattle.std.proofs.Math.Nat.{pow-suc}
use Rattle.circle_field.specs.Field.{FieldOps, RingLaws}
use Rattle.circle_field.specs.Circle.{Coordinates, IsOnCircle, origin, plus, times}
use Rattle.circle_field.specs.CircleGroup.{plus_comm, plus_assoc, plus-origin, plus-on_circle}
use Rattle.circle_field.specs.CircleGroup.{origin-on_circle, doubling}
use Rattle.circle_point.specs.Basis.{doubled_x, iterated_x}

module _ {F : Type 0} {k : FieldOps F} (laws : RingLaws k) where
  pub origin-plus : (p : Coordinates F) → plus k (origin k) p ≡ p
  origin-plus p = plus_comm laws (origin k) p ∙ plus-origin laws p

  pub times-+ : (m n : ℕ) (p : Coordinates F) → times k (m + n) p
      ≡ plus k (times k m p) (times k n p)
  times-+ zero n p = let e : zero + n ≡ n = omega arith in rw e (sym (origin-plus (times k n p)))
  times-+ (suc m) n p =
      let e : suc m + n ≡ suc (m + n) = omega arith in
      rw e (ap (plus k p) (times-+ m n p) ∙ sym (plus_assoc laws p (times k m p) (times k n p)))

  pub times-one : (p : Coordinates F) → times k 1 p ≡ p
  times-one p = plus-origin laws p

  pub plus-times : (n : ℕ) (p : Coordinates F) → plus k (times k n p) p ≡ times k (suc n) p
  plus-times n p = plus_comm laws (times k n p) p

  -- a multiple of the double is twice the multiple
  pub times-double : (n : ℕ) (p : Coordinates F) → times k n (plus k p p) ≡ times k (n + n) p
  times-double zero p = refl
  times-double (suc n) p =
      let e : suc n + suc n ≡ suc (suc (n + n)) = omega arith in
      rw e (ap (plus k (plus k p p)) (times-double n p) ∙ plus_assoc laws p p (times k (n + n) p))

  pub times-on_circle : (n : ℕ) (p : Coordinates F) → IsOnCircle k p → IsOnCircle k (times k n p)
  times-on_circle zero p h = origin-on_circle laws
  times-on_circle (suc n) p h = plus-on_circle laws p (times k n p) h (times-on_circle n p h)

  -- one more doubling
  pub doubled-times : (n : ℕ) (p q : Coordinates F) → q ≡ times k (2 ^ n) p →
      plus k q q ≡ times k (2 ^ (n + 1)) p
  doubled-times n p q h =
      let e : 2 ^ n + 2 ^ n ≡ 2 ^ (n + 1) = rw add-one (omega (arith, pow-suc 2 n)) in
      ap (λ r. plus k r r) h ∙ sym (times-+ (2 ^ n) (2 ^ n) p) ∙ ap (λ m. times k m p) e

  -- one step of the multiple by repeated doubling, at an even and at an odd factor
  pub halved_even : (r q t : Coordinates F) (n : ℕ) → plus k r (times k n q) ≡ t → n % 2 ≡ 0 →
      plus k r (times k (n / 2) (plus k q q)) ≡ t
  halved_even r q t n h even =
      let e : n / 2 + n / 2 ≡ n = omega arith in
      ap (plus k r) (times-double (n / 2) q ∙ ap (λ m. times k m q) e) ∙ h

  pub halved_odd : (r q t : Coordinates F) (n : ℕ) → plus k r (times k n q) ≡ t → n % 2 ≡ 1 →
      plus k (plus k r q) (times k (n / 2) (plus k q q)) ≡ t
  halved_odd r q t n h odd =
      let e : suc (n / 2 + n / 2) ≡ n = omega arith in
      plus_assoc laws r q (times k (n / 2) (plus k q q))
      ∙ ap (λ x. plus k r (plus k q x)) (times-double (n / 2) q)
      ∙ ap (λ m. plus k r (times k m q)) e ∙ h

  pub no_more : (r q t : Coordinates F) (n : ℕ) → plus k r (times k n q) ≡ t → n ≡ 0 → r ≡ t
  no_more r q t n h e = sym (plus-origin laws r) ∙ ap (λ m. plus k r (times k m q)) (sym e) ∙ h

  pub doubled_x-plus : (p : Coordinates F) → IsOnCircle k p → doubled_x k p.x ≡ (plus k p p).x
  doubled_x-plus p h = ap (λ (q : Coordinates F). q.x) (doubling laws p h)

  -- n doublings of the x coordinate give that of the multiple by 2^n
  pub iterated_x-times : (n : ℕ) (p : Coordinates F) → IsOnCircle k p → iterated_x k n p.x
      ≡ (times k (2 ^ n) p).x
  iterated_x-times zero p h = sym (ap (λ (q : Coordinates F). q.x) (times-one p))
  iterated_x-times (suc n) p h =
      let e : 2 ^ n + 2 ^ n ≡ 2 ^ suc n = omega (arith, pow-suc 2 n) in
      ap (iterated_x k n) (doubled_x-plus p h)
      ∙ iterated_x-times n (plus k p p) (plus-on_circle laws p p h h)
      ∙ ap (λ (q : Coordinates F). q.x) (times-double (2 ^ n) p ∙ ap (λ m. times k m p) e)

-- the last doubling
pub iterated_x-suc : {F : Type 0} (k : FieldOps F) (n : ℕ) (x : F) → iterated_x k (suc n) x
    ≡ doubled_x k (iterated_x k n x)
iterated_x-suc k zero x = refl
iterated_x-suc k (suc n) x = iterated_x-suc k n (doubled_x k x)
