-- Differences of values at places and at z, times the imaginary part of the vanishing function of z
-- over its real part: they are nearly of low degree again.
use Rattle.std.specs.Prelude.{◌≡◌, ◌≢◌, ℕ, ◌^◌, ◌≤◌, List, [], ◌∷◌, length, take, drop}
use Rattle.std.proofs.Common.{zero, suc, refl, sym, ◌∙◌, ap, arith}
use Rattle.std.proofs.lemmas.List.{take-append-drop, length-take-le, length-drop}
use Rattle.circle_field.specs.Field.{FieldOps, FieldLaws, sub}
use Rattle.circle_field.specs.Ring.{Expr, var, con, unit, plus as sum, times as prod, minus}
use Rattle.circle_field.specs.RingSound.{ring}
use Rattle.circle_field.specs.RingCombine.{given, combine}
use Rattle.circle_field.specs.Circle.{Coordinates, IsOnCircle, plus, opposite}
use Rattle.circle_point.specs.Basis.{value, doubled_x}
use Rattle.circle_point.proofs.Multiples.{iterated_x-suc}
use Rattle.circle_domain.specs.Layers.{factor}
use Rattle.circle_domain.proofs.HalfSums.{value-halves}
use Rattle.circle_completeness.proofs.NearLow.{IsNearLow, near-same, near-plus, near-scaled}
use Rattle.circle_completeness.proofs.NearLow.{near-raised, two-halves}

module _ {E : Type 0} {l : FieldOps E} (laws : FieldLaws l) where
  -- the imaginary part of the vanishing function of z at p over its real part
  abbrev pub ratio_at : Coordinates E → Coordinates E → E
  ratio_at z p =
      let d = plus l (opposite l z) p in
      l.mul (l.neg d.y) (l.inv (sub l l.one d.x))

  module _ (z p : Coordinates E) (on_z : IsOnCircle l z) (on_p : IsOnCircle l p)
      (apart : sub l l.one (plus l (opposite l z) p).x ≢ l.zero) where
    abbrev a : Expr
    a = var 0

    abbrev b : Expr
    b = var 1

    abbrev x : Expr
    x = var 2

    abbrev y : Expr
    y = var 3

    abbrev i : Expr
    i = var 4

    abbrev env : List E
    env = z.x ∷ z.y ∷ p.x ∷ p.y ∷ l.inv (sub l l.one (plus l (opposite l z) p).x) ∷ []

    abbrev re : Expr
    re = sum unit (minus (sum (prod a x) (minus (prod (minus b) y))))

    abbrev im : Expr
    im = minus (sum (prod a y) (prod (minus b) x))

    inverse : l.mul (sub l l.one (plus l (opposite l z) p).x)
        (l.inv (sub l l.one (plus l (opposite l z) p).x)) ≡ l.one
    inverse = laws.mul_inv (sub l l.one (plus l (opposite l z) p).x) apart

    -- of the two coordinates
    pub ratio-x : l.mul (ratio_at z p) (sub l p.x z.x) ≡ l.add p.y z.y
    ratio-x =
        combine laws.ring env (prod (prod im i) (sum x (minus a))) (sum y b)
        (given (sum y b) (prod re i) unit
        ∷ given (prod i y) (sum (prod a a) (prod b b)) unit
        ∷ given (prod i b) (sum (prod x x) (prod y y)) unit ∷ []) refl
        (inverse, (on_z, (on_p, tt)))

    pub ratio-y : l.mul (ratio_at z p) (sub l p.y z.y) ≡ l.neg (l.add p.x z.x)
    ratio-y =
        combine laws.ring env (prod (prod im i) (sum y (minus b))) (minus (sum x a))
        (given (minus (sum x a)) (prod re i) unit
        ∷ given (minus (prod i x)) (sum (prod a a) (prod b b)) unit
        ∷ given (minus (prod i a)) (sum (prod x x) (prod y y)) unit ∷ []) refl
        (inverse, (on_z, (on_p, tt)))

  module _ {T : Type 0} (place : T → Coordinates E) (z : Coordinates E) (on_z : IsOnCircle l z)
      (on : (t : T) → IsOnCircle l (place t))
      (apart : (t : T) → sub l l.one (plus l (opposite l z) (place t)).x ≢ l.zero) where
    abbrev pub ratio : T → E
    ratio t = ratio_at z (place t)

    -- of a vanishing polynomial
    near-vanishing : (m : ℕ) →
        IsNearLow laws place (suc m)
        (λ t. l.mul (ratio t) (sub l (factor l (suc m) (place t)) (factor l (suc m) z)))
    near-vanishing zero = record {
      low = z.y ∷ l.one ∷ [];
      multiple = l.zero;
      count = refl;
      values = λ t.
          ratio-x z (place t) on_z (on t) (apart t)
          ∙ ring laws.ring (z.y ∷ (place t).y ∷ (place t).x ∷ []) (sum (var 1) (var 0))
          (sum (sum (prod (var 0) (prod unit unit)) (sum (prod unit (prod unit (var 1))) (con 0)))
          (prod (con 0) (var 2))) refl;
    }
    near-vanishing (suc m) =
        let n = suc m in
        let v = λ (t : T). factor l n (place t) in
        let w = factor l n z in
        let r = ratio in
        let g = λ (t : T). l.mul (r t) (sub l (v t) w) in
        let near = near-vanishing m in
        near-same laws place
        (λ t. l.add (l.mul (l.add w w) (g t)) (l.mul (l.mul (l.add l.one l.one) (g t)) (v t)))
        (λ t. l.mul (r t) (sub l (factor l (suc n) (place t)) (factor l (suc n) z)))
        (λ t.
        ap (λ s. l.mul (r t) (sub l s (factor l (suc n) z))) (iterated_x-suc l m (place t).x)
        ∙ ap (λ s. l.mul (r t) (sub l (doubled_x l (v t)) s)) (iterated_x-suc l m z.x)
        ∙ ring laws.ring (r t ∷ v t ∷ w ∷ [])
        (prod (var 0)
        (sum (sum (sum (prod (var 1) (var 1)) (prod (var 1) (var 1))) (minus unit))
        (minus (sum (sum (prod (var 2) (var 2)) (prod (var 2) (var 2))) (minus unit)))))
        (sum (prod (sum (var 2) (var 2)) (prod (var 0) (sum (var 1) (minus (var 2)))))
        (prod (prod (sum unit unit) (prod (var 0) (sum (var 1) (minus (var 2))))) (var 1)))
        refl)
        (near-raised laws place m (λ t. l.mul (l.add w w) (g t))
        (λ t. l.mul (l.add l.one l.one) (g t))
        (near-scaled laws place n (l.add w w) g near)
        (near-scaled laws place n (l.add l.one l.one) g near))

    -- of the values of a polynomial
    pub near-difference : (m : ℕ) (c : List E) → length c ≡ 2 ^ suc m →
        IsNearLow laws place (suc m)
        (λ t. l.mul (ratio t) (sub l (value l c (place t)) (value l c z)))
    near-difference zero [] long = absurd (omega (arith, long))
    near-difference zero (c ∷ []) long = absurd (omega (arith, long))
    near-difference zero (c ∷ d ∷ e ∷ rest) long = absurd (omega (arith, long))
    near-difference zero (c ∷ d ∷ []) long = record {
      low = l.neg (l.mul d z.x) ∷ l.zero ∷ [];
      multiple = l.neg d;
      count = refl;
      values = λ t.
          let p = place t in
          combine laws.ring (c ∷ d ∷ p.x ∷ p.y ∷ z.x ∷ z.y ∷ ratio t ∷ [])
          (prod (var 6)
          (sum
          (sum (prod (var 0) (prod unit unit)) (sum (prod (var 1) (prod unit (var 3))) (con 0)))
          (minus
          (sum (prod (var 0) (prod unit unit))
          (sum (prod (var 1) (prod unit (var 5))) (con 0))))))
          (sum
          (sum (prod (minus (prod (var 1) (var 4))) (prod unit unit))
          (sum (prod (con 0) (prod unit (var 3))) (con 0))) (prod (minus (var 1)) (var 2)))
          (given (var 1) (prod (var 6) (sum (var 3) (minus (var 5)))) (minus (sum (var 2) (var 4)))
          ∷ []) refl
          (ratio-y z p on_z (on t) (apart t), tt);
    }
    near-difference (suc m) c long =
        let n = suc m in
        let half = 2 ^ n in
        let lo = take half c in
        let hi = drop half c in
        let within : half ≤ length c = omega (arith, long, two-halves n) in
        let long_lo : length lo ≡ half = length-take-le half c within in
        let long_hi : length hi ≡ half = omega (arith, length-drop half c, long, two-halves n) in
        let v = λ (t : T). factor l n (place t) in
        let w = factor l n z in
        let r = ratio in
        let hz = value l hi z in
        let g = λ (t : T). l.mul (r t) (sub l (value l lo (place t)) (value l lo z)) in
        let h = λ (t : T). l.mul (r t) (sub l (value l hi (place t)) hz) in
        let u = λ (t : T). l.mul (r t) (sub l (v t) w) in
        let joined : (p : Coordinates E) →
        value l c p ≡ l.add (value l lo p) (l.mul (value l hi p) (factor l n p)) =
        λ p. ap (λ s. value l s p) (sym (take-append-drop half c))
        ∙ value-halves laws.ring n lo hi p long_lo (omega (arith, long_hi)) in
        near-same laws place (λ t. l.add (l.add (g t) (l.mul (u t) hz)) (l.mul (h t) (v t)))
        (λ t. l.mul (r t) (sub l (value l c (place t)) (value l c z)))
        (λ t.
        ap (λ s. l.mul (r t) (sub l s (value l c z))) (joined (place t))
        ∙ ap
        (λ s. l.mul (r t)
        (sub l (l.add (value l lo (place t)) (l.mul (value l hi (place t)) (v t))) s))
        (joined z)
        ∙ ring laws.ring (r t ∷ v t ∷ w ∷ value l lo (place t) ∷ value l lo z ∷ value l hi (place t)
        ∷ hz ∷ [])
        (prod (var 0)
        (sum (sum (var 3) (prod (var 5) (var 1))) (minus (sum (var 4) (prod (var 6) (var 2))))))
        (sum
        (sum (prod (var 0) (sum (var 3) (minus (var 4))))
        (prod (prod (var 0) (sum (var 1) (minus (var 2)))) (var 6)))
        (prod (prod (var 0) (sum (var 5) (minus (var 6)))) (var 1))) refl)
        (near-raised laws place m (λ t. l.add (g t) (l.mul (u t) hz)) h
        (near-plus laws place n hz g u (near-difference m lo long_lo) (near-vanishing m))
        (near-difference m hi long_hi))
