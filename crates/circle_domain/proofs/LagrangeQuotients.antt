-- The Lagrange polynomials of a genuine domain as quotients, those of opposite points by one
-- division.
use Rattle.std.specs.Prelude.{◌≡◌, ◌≢◌, ℕ, ◌-◌, ◌<◌, List, [], ◌∷◌}
use Rattle.std.proofs.Common.{zero, suc, sym, ◌∙◌, ap, refl, arith}
use Rattle.circle_field.specs.Field.{FieldOps, FieldLaws, sub, nth_power, two}
use Rattle.circle_field.specs.Ring.{Expr, var, unit, plus as sum, times as prod, minus}
use Rattle.circle_field.specs.RingSound.{ring}
use Rattle.circle_field.specs.RingCombine.{given, combine}
use Rattle.circle_field.specs.RingFacts.{mul_one}
use Rattle.circle_field.specs.Circle.{Coordinates}
use Rattle.circle_point.specs.Basis.{doubled_x, iterated_x, vanishing, vanishing_product}
use Rattle.circle_point.proofs.Multiples.{iterated_x-suc}
use Rattle.circle_domain.specs.Lagrange.{lagrange_at as weight}
use Rattle.circle_domain.specs.Layers.{factor}
use Rattle.circle_domain.proofs.LagrangePolynomials.{twice-nonzero}

module _ {F : Type 0} (k : FieldOps F) where
  -- the products of the weights' numerators and denominators
  abbrev pub joined : ℕ → Coordinates F → Coordinates F → F
  joined zero q p = k.one
  joined (suc m) q p = k.mul (joined m q p) (k.add (factor k m p) (factor k m q))

  abbrev pub doubled : ℕ → Coordinates F → F
  doubled zero p = k.one
  doubled (suc m) p = k.mul (doubled m p) (k.add (factor k m p) (factor k m p))

  -- the point's share of the Lagrange polynomial: (y_p + y_q) / (x_p - x_q)
  abbrev pub share : Coordinates F → Coordinates F → F
  share q p = k.mul (k.add p.y q.y) (k.inv (sub k p.x q.x))

module _ {F : Type 0} {k : FieldOps F} (laws : FieldLaws k) where
  weight-joined : (m : ℕ) (q p : Coordinates F) → ((i : ℕ) → i < m → factor k i p ≢ k.zero) →
      k.mul (weight k m q p) (doubled k m p) ≡ joined k m q p
  weight-joined zero q p h = mul_one laws.ring k.one
  weight-joined (suc m) q p h =
      let t = factor k m p in
      let i = k.inv (k.add t t) in
      let env : List F = weight k m q p ∷ doubled k m p ∷ t ∷ factor k m q ∷ i ∷ joined k m q p
      ∷ [] in
      combine laws.ring env
      (prod (prod (var 0) (prod (sum (var 2) (var 3)) (var 4)))
      (prod (var 1) (sum (var 2) (var 2))))
      (prod (var 5) (sum (var 2) (var 3)))
      (given (prod (prod (var 0) (var 1)) (sum (var 2) (var 3)))
      (prod (sum (var 2) (var 2)) (var 4)) unit
      ∷ given (sum (var 2) (var 3)) (prod (var 0) (var 1)) (var 5) ∷ []) refl (
        laws.mul_inv (k.add t t) (twice-nonzero laws t (h m (omega arith))),
        (weight-joined m q p (λ i lt. h i (omega (arith, lt))), tt),
      )

  -- the numerator's product telescopes
  telescope : (m : ℕ) (q p : Coordinates F) →
      k.mul (joined k (suc m) q p) (k.mul (sub k p.x q.x) (nth_power k (two k) m))
      ≡ k.mul (k.add p.y q.y) (sub k (factor k (suc m) p) (factor k (suc m) q))
  telescope zero q p =
      ring laws.ring (p.x ∷ p.y ∷ q.x ∷ q.y ∷ [])
      (prod (prod unit (sum (var 1) (var 3))) (prod (sum (var 0) (minus (var 2))) unit))
      (prod (sum (var 1) (var 3)) (sum (var 0) (minus (var 2)))) refl
  telescope (suc m) q p =
      let fp = factor k (suc m) p in
      let fq = factor k (suc m) q in
      let env : List F = joined k (suc m) q p ∷ sub k p.x q.x ∷ nth_power k (two k) m ∷ fp ∷ fq
      ∷ k.add p.y q.y ∷ [] in
      let squared : Expr → Expr = λ x. sum (sum (prod x x) (prod x x)) (minus unit) in
      combine laws.ring env
      (prod (prod (var 0) (sum (var 3) (var 4))) (prod (var 1) (prod (sum unit unit) (var 2))))
      (prod (var 5) (sum (squared (var 3)) (minus (squared (var 4)))))
      (given (prod (sum unit unit) (sum (var 3) (var 4))) (prod (var 0) (prod (var 1) (var 2)))
      (prod (var 5) (sum (var 3) (minus (var 4)))) ∷ []) refl
      (telescope m q p, tt)
      ∙ ap (λ a. k.mul (k.add p.y q.y) (sub k a (doubled_x k fq))) (sym (iterated_x-suc k m p.x))
      ∙ ap (λ b. k.mul (k.add p.y q.y) (sub k (factor k (suc (suc m)) p) b))
      (sym (iterated_x-suc k m q.x))

  -- the denominator's product
  doubled-product : (m : ℕ) (p : Coordinates F) → doubled k (suc m) p
      ≡ k.mul (nth_power k (two k) (suc m)) (k.mul (vanishing_product k m p) p.y)
  doubled-product zero p =
      ring laws.ring (p.y ∷ []) (prod unit (sum (var 0) (var 0)))
      (prod (prod (sum unit unit) unit) (prod unit (var 0))) refl
  doubled-product (suc m) p =
      let first : suc m - 1 ≡ m = omega arith in
      let x : factor k (suc m) p ≡ vanishing k (suc m) p =
      ap (λ n. iterated_x k n p.x) (sym first) in
      let v = vanishing k (suc m) p in
      ap (λ t. k.mul (doubled k (suc m) p) (k.add t t)) x
      ∙ ap (λ r. k.mul r (k.add v v)) (doubled-product m p)
      ∙ ring laws.ring (nth_power k (two k) (suc m) ∷ vanishing_product k m p ∷ p.y ∷ v ∷ [])
      (prod (prod (var 0) (prod (var 1) (var 2))) (sum (var 3) (var 3)))
      (prod (prod (sum unit unit) (var 0)) (prod (prod (var 1) (var 3)) (var 2))) refl

  -- the weight is a common factor times the point's share
  pub weight-share : (m : ℕ) (q p : Coordinates F) (s_p : F) →
      ((i : ℕ) → i < suc m → factor k i p ≢ k.zero) → sub k p.x q.x ≢ k.zero → s_p ≢ k.zero →
      k.neg (k.mul (nth_power k (two k) m) (doubled k (suc m) p)) ≡ s_p →
      weight k (suc m) q p
      ≡ k.mul (share k q p)
      (k.mul (sub k (factor k (suc m) q) (factor k (suc m) p)) (k.inv s_p))
  weight-share m q p s_p nonzero apart s_nonzero e =
      let x = sub k p.x q.x in
      let w = weight k (suc m) q p in
      let d = doubled k (suc m) p in
      let c = nth_power k (two k) m in
      let y = k.add p.y q.y in
      let fq = factor k (suc m) q in
      let fp = factor k (suc m) p in
      let env : List F = w ∷ d ∷ c ∷ x ∷ y ∷ fq ∷ fp ∷ s_p ∷ k.inv x ∷ k.inv s_p
      ∷ joined k (suc m) q p ∷ [] in
      let ew : Expr = var 0 in let ed : Expr = var 1 in let ec : Expr = var 2 in let ex : Expr =
      var 3 in let ey : Expr = var 4 in
      let eq : Expr = var 5 in let ep : Expr = var 6 in let es : Expr = var 7 in let ix : Expr =
      var 8 in let is : Expr = var 9 in let ej : Expr = var 10 in
      -- w x s = y (fq - fp)
      let crossed : k.mul w (k.mul x s_p) ≡ k.mul y (sub k fq fp) =
      combine laws.ring env (prod ew (prod ex es)) (prod ey (sum eq (minus ep)))
      (given (prod ew (minus ex)) (minus (prod ec ed)) es
      ∷ given (minus (prod ex ec)) (prod ew ed) ej
      ∷ given (minus unit) (prod ej (prod ex ec)) (prod ey (sum ep (minus eq))) ∷ []) refl
      (e, (weight-joined (suc m) q p nonzero, (telescope m q p, tt))) in
      combine laws.ring env ew (prod (prod ey ix) (prod (sum eq (minus ep)) is))
      (given (minus (prod ew (prod es is))) (prod ex ix) unit ∷ given (minus ew) (prod es is) unit
      ∷ given (prod ix is) (prod ew (prod ex es)) (prod ey (sum eq (minus ep))) ∷ []) refl
      (laws.mul_inv x apart, (laws.mul_inv s_p s_nonzero, (crossed, tt)))

  -- the normalisation of the Lagrange polynomial by its product
  pub normalised : (m : ℕ) (p : Coordinates F) (y : F) →
      y ≡ k.mul (nth_power k (two k) m) (k.mul (vanishing_product k m p) p.y) →
      k.neg (k.mul (nth_power k (two k) m) (doubled k (suc m) p))
      ≡ k.neg (k.mul (nth_power k (two k) (suc m)) y)
  normalised m p y e =
      ap (λ d. k.neg (k.mul (nth_power k (two k) m) d)) (doubled-product m p)
      ∙ ring laws.ring (nth_power k (two k) m ∷ nth_power k (two k) (suc m)
      ∷ k.mul (vanishing_product k m p) p.y ∷ [])
      (minus (prod (var 0) (prod (var 1) (var 2)))) (minus (prod (var 1) (prod (var 0) (var 2))))
      refl
      ∙ ap (λ z. k.neg (k.mul (nth_power k (two k) (suc m)) z)) (sym e)
