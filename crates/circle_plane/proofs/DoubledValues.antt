-- The values of a polynomial at the doubles of points are those of another one at the points.
use Rattle.std.specs.Prelude.{◌≡◌, ℕ, ◌+◌, ◌*◌, ◌^◌, List, [], ◌∷◌, ◌++◌, length, take, drop}
use Rattle.std.proofs.Common.{zero, suc, sym, ◌∙◌, ap, refl, arith, length-append}
use Rattle.std.proofs.Math.Nat.{pow-suc}
use Rattle.std.proofs.lemmas.List.{length-take-le, length-drop, take-append-drop}
use Rattle.circle_field.specs.Field.{FieldOps, RingLaws}
use Rattle.circle_field.specs.Circle.{Coordinates, IsOnCircle, plus, times}
use Rattle.circle_field.specs.CircleGroup.{plus-on_circle}
use Rattle.circle_field.specs.Ring.{con, var, unit, plus as sum, times as prod}
use Rattle.circle_field.specs.RingSound.{ring}
use Rattle.circle_point.specs.Basis.{value, iterated_x}
use Rattle.circle_point.proofs.Multiples.{times-one, times-double, doubled_x-plus}
use Rattle.circle_domain.specs.Layers.{factor}
use Rattle.circle_domain.proofs.HalfSums.{value-halves}

module _ {F : Type 0} {k : FieldOps F} (laws : RingLaws k) where
  constant : (a : F) (p q : Coordinates F) → value k (a ∷ k.zero ∷ []) p ≡ value k (a ∷ []) q
  constant a p q =
      ring laws (a ∷ p.y ∷ [])
      (sum (prod (var 0) (prod unit unit)) (sum (prod (con 0) (prod unit (var 1))) (con 0)))
      (sum (prod (var 0) (prod unit unit)) (con 0)) refl

  -- twice y times x is the y coordinate of the double
  linear : (a b : F) (p : Coordinates F) → value k (a ∷ k.zero ∷ k.zero ∷ k.add b b ∷ []) p
      ≡ value k (a ∷ b ∷ []) (plus k p p)
  linear a b p =
      ring laws (a ∷ b ∷ p.x ∷ p.y ∷ [])
      (sum (prod (var 0) (prod unit unit))
      (sum (prod (con 0) (prod unit (var 3)))
      (sum (prod (con 0) (prod (prod unit (var 2)) unit))
      (sum (prod (sum (var 1) (var 1)) (prod (prod unit (var 2)) (var 3))) (con 0)))))
      (sum (prod (var 0) (prod unit unit))
      (sum (prod (var 1) (prod unit (sum (prod (var 2) (var 3)) (prod (var 3) (var 2)))))
      (con 0))) refl

  doubled_factor : (m : ℕ) (p : Coordinates F) → IsOnCircle k p → factor k (suc m) (plus k p p)
      ≡ factor k (suc (suc m)) p
  doubled_factor m p on = ap (iterated_x k m) (sym (doubled_x-plus laws p on))

  -- twice as many coefficients, with the values of these at the doubles
  doubled-once : (n : ℕ) (c : List F) → length c ≡ 2 ^ n →
      (c' : List F) × (length c' ≡ 2 ^ suc n)
      × ((p : Coordinates F) → IsOnCircle k p → value k c' p ≡ value k c (plus k p p))
  doubled-once zero [] long = absurd (omega arith)
  doubled-once zero (a ∷ []) long = (a ∷ k.zero ∷ [], refl, λ p on. constant a p (plus k p p))
  doubled-once zero (a ∷ b ∷ rest) long = absurd (omega arith)
  doubled-once (suc zero) [] long = absurd (omega arith)
  doubled-once (suc zero) (a ∷ []) long = absurd (omega arith)
  doubled-once (suc zero) (a ∷ b ∷ []) long =
      (a ∷ k.zero ∷ k.zero ∷ k.add b b ∷ [], refl, λ p on. linear a b p)
  doubled-once (suc zero) (a ∷ b ∷ d ∷ rest) long = absurd (omega arith)
  doubled-once (suc (suc m)) c long =
      let half = 2 ^ suc m in
      let pow : 2 ^ suc (suc m) ≡ half * 2 = pow-suc 2 (suc m) in
      let lo = take half c in
      let hi = drop half c in
      let long_lo : length lo ≡ half = length-take-le half c (omega (arith, long, pow)) in
      let long_hi : length hi ≡ half = length-drop half c ∙ omega (arith, long, pow) in
      let low = doubled-once (suc m) lo long_lo in
      let high = doubled-once (suc m) hi long_hi in (
        low.0 ++ high.0,
        length-append low.0 high.0 ∙ omega (arith, low.1, high.1, pow-suc 2 (suc (suc m))),
        λ p on.
            value-halves laws (suc (suc m)) low.0 high.0 p low.1 (omega (arith, high.1))
            ∙ ap (λ v. k.add v (k.mul (value k high.0 p) (factor k (suc (suc m)) p))) (low.2 p on)
            ∙ ap (λ v. k.add (value k lo (plus k p p)) (k.mul v (factor k (suc (suc m)) p)))
            (high.2 p on)
            ∙ ap (λ t. k.add (value k lo (plus k p p)) (k.mul (value k hi (plus k p p)) t))
            (sym (doubled_factor m p on))
            ∙ sym (value-halves laws (suc m) lo hi (plus k p p) long_lo (omega (arith, long_hi)))
            ∙ ap (λ cs. value k cs (plus k p p)) (take-append-drop half c),
      )

  -- 2^r times as many, with the values of these at the points doubled r times
  pub doubled : (r n : ℕ) (c : List F) → length c ≡ 2 ^ n →
      (c' : List F) × (length c' ≡ 2 ^ (r + n))
      × ((p : Coordinates F) → IsOnCircle k p → value k c' p ≡ value k c (times k (2 ^ r) p))
  doubled zero n c long = (
    c,
    long ∙ ap (λ m. 2 ^ m) (let e : n ≡ zero + n = omega arith in e),
    λ p on. ap (value k c) (sym (times-one laws p)),
  )
  doubled (suc r) n c long =
      let before = doubled r n c long in
      let next = doubled-once (r + n) before.0 before.1 in
      let twice : 2 ^ r + 2 ^ r ≡ 2 ^ suc r = omega (arith, pow-suc 2 r) in (
        next.0,
        next.1 ∙ ap (λ m. 2 ^ m) (let e : suc (r + n) ≡ suc r + n = omega arith in e),
        λ p on. next.2 p on ∙ before.2 (plus k p p) (plus-on_circle laws p p on on)
            ∙ ap (value k c) (times-double laws (2 ^ r) p ∙ ap (λ m. times k m p) twice),
      )
