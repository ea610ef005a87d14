-- The Lagrange polynomials of a genuine block of points, as products over the factors of its
-- halves.
use Rattle.std.specs.Prelude.{◌≡◌, ◌≢◌, ℕ, ◌^◌, ◌≤◌, List, [], ◌∷◌, ◌++◌, length, map, take, drop}
use Rattle.std.specs.List.{AllByRecursion}
use Rattle.std.proofs.Common.{zero, suc, sym, ◌∙◌, ap, refl, arith}
use Rattle.std.proofs.lemmas.List.{map-append, length-map}
use Rattle.circle_field.specs.Field.{FieldOps, RingLaws, FieldLaws}
use Rattle.circle_field.specs.Ring.{Expr, var, con, unit, plus as sum, times as prod, minus}
use Rattle.circle_field.specs.RingSound.{ring}
use Rattle.circle_field.specs.RingCombine.{given, combine}
use Rattle.circle_field.specs.RingFacts.{neg_neg, neg_zero}
use Rattle.circle_field.specs.Circle.{Coordinates, IsOnCircle, AreGenerators, origin, times}
use Rattle.circle_field.proofs.Inverses.{nonzero_product}
use Rattle.circle_point.specs.Basis.{value}
use Rattle.circle_domain.specs.Lagrange.{lagrange_at as weight}
use Rattle.circle_domain.specs.Layers.{factor, second_half}
use Rattle.circle_commit.specs.DotProduct.{dot}
use Rattle.circle_commit.proofs.ColumnSums.{dot-append}
use Rattle.circle_domain.proofs.HalfSums.{value-low, high-low}
use Rattle.circle_domain.proofs.Blocks.{points, second_half-on_circle}
use Rattle.circle_domain.proofs.Transform.{lower, upper, map-same, halves_of, split_values}
use Rattle.circle_domain.proofs.Inversion.{factor-nonzero, first-genuine, second-genuine}

module _ {F : Type 0} {k : FieldOps F} (laws : RingLaws k) where
  pub dot-scaled : {X : Type 0} (f h : X → F) (u : F) (xs : List X) →
      dot k (map (λ x. k.mul (f x) u) xs) (map h xs) ≡ k.mul (dot k (map f xs) (map h xs)) u
  dot-scaled f h u [] = ring laws (u ∷ []) (con 0) (prod (con 0) (var 0)) refl
  dot-scaled f h u (x ∷ xs) =
      ap (k.add (k.mul (k.mul (f x) u) (h x))) (dot-scaled f h u xs)
      ∙ ring laws (f x ∷ u ∷ h x ∷ dot k (map f xs) (map h xs) ∷ [])
      (sum (prod (prod (var 0) (var 1)) (var 2)) (prod (var 3) (var 1)))
      (prod (sum (prod (var 0) (var 2)) (var 3)) (var 1)) refl

module _ {F : Type 0} {k : FieldOps F} (laws : FieldLaws k) where
  pub neg-nonzero : (a : F) → a ≢ k.zero → k.neg a ≢ k.zero
  neg-nonzero a h = λ e. h (sym (neg_neg laws.ring a) ∙ ap k.neg e ∙ neg_zero laws.ring)

  pub twice-nonzero : (a : F) → a ≢ k.zero → k.add a a ≢ k.zero
  twice-nonzero a h = λ e.
      nonzero_product laws a (k.add k.one k.one) h laws.two_nonzero
      (ring laws.ring (a ∷ []) (prod (var 0) (sum unit unit)) (sum (var 0) (var 0)) refl ∙ e)

  -- the values a + b t and a - b t of the two halves add up to a + b v
  halves-add_up : (a b t v : F) → t ≢ k.zero →
      k.add (k.mul (k.add a (k.mul b t)) (k.mul (k.add t v) (k.inv (k.add t t))))
      (k.mul (k.add a (k.mul b (k.neg t)))
      (k.mul (k.add (k.neg t) v) (k.inv (k.add (k.neg t) (k.neg t)))))
      ≡ k.add a (k.mul b v)
  halves-add_up a b t v h =
      let i = k.inv (k.add t t) in
      let j = k.inv (k.add (k.neg t) (k.neg t)) in
      let first : k.mul (k.add t t) i ≡ k.one = laws.mul_inv (k.add t t) (twice-nonzero t h) in
      let second : k.mul (k.add (k.neg t) (k.neg t)) j ≡ k.one =
      laws.mul_inv (k.add (k.neg t) (k.neg t)) (twice-nonzero (k.neg t) (neg-nonzero t h)) in
      let ea : Expr = var 0 in let eb : Expr = var 1 in let et : Expr = var 2 in let ev : Expr =
      var 3 in let ei : Expr = var 4 in let ej : Expr = var 5 in
      let env : List F = a ∷ b ∷ t ∷ v ∷ i ∷ j ∷ [] in
      let low : Expr = sum ea (prod eb et) in
      let high : Expr = sum ea (prod eb (minus et)) in
      let opposite_inverse : j ≡ k.neg i =
      combine laws.ring env ej (minus ei)
      (given (minus ej) (prod (sum et et) ei) unit
      ∷ given (minus ei) (prod (sum (minus et) (minus et)) ej) unit ∷ []) refl
      (first, (second, tt)) in
      combine laws.ring env
      (sum (prod low (prod (sum et ev) ei)) (prod high (prod (sum (minus et) ev) ej)))
      (sum ea (prod eb ev))
      (given (sum ea (prod eb ev)) (prod (sum et et) ei) unit
      ∷ given (prod high (sum (minus et) ev)) ej (minus ei) ∷ []) refl
      (first, (opposite_inverse, tt))

  module _ {gen : ℕ → Coordinates F} {bits : ℕ} (gens : AreGenerators k bits gen) where
    -- one half of a block, on which the factor of its halves is t
    half-sum : (m : ℕ) (start at : Coordinates F) (t : F) (c half : List F) →
        AllByRecursion (λ p. factor k m p ≡ t) (points k gen m start) →
        map (value k half) (points k gen m start) ≡ map (value k c) (points k gen m start) →
        dot k (map (weight k (suc m) at) (points k gen m start))
        (map (value k c) (points k gen m start))
        ≡ k.mul
        (dot k (map (weight k m at) (points k gen m start))
        (map (value k half) (points k gen m start)))
        (k.mul (k.add t (factor k m at)) (k.inv (k.add t t)))
    half-sum m start at t c half all same =
        let ps = points k gen m start in
        let u = k.mul (k.add t (factor k m at)) (k.inv (k.add t t)) in
        let weights : map (weight k (suc m) at) ps ≡ map (λ p. k.mul (weight k m at p) u) ps =
        map-same (weight k (suc m) at) (λ p. k.mul (weight k m at p) u) (λ p. factor k m p ≡ t) ps
        all
        (λ p is_t. ap
        (λ r. k.mul (weight k m at p) (k.mul (k.add r (factor k m at)) (k.inv (k.add r r))))
        is_t) in
        ap (λ ws. dot k ws (map (value k c) ps)) weights
        ∙ ap (dot k (map (λ p. k.mul (weight k m at p) u) ps)) (sym same)
        ∙ dot-scaled laws.ring (weight k m at) (value k half) u ps

    -- the values at the points of a genuine block, each times its Lagrange polynomial's value, add
    -- up to the value
    pub lagrange : (m : ℕ) (q at : Coordinates F) (c : List F) → length c ≡ 2 ^ m → m ≤ suc bits →
        IsOnCircle k q → times k (2 ^ m) q ≢ origin k →
        dot k (map (weight k m at) (points k gen m q)) (map (value k c) (points k gen m q))
        ≡ value k c at
    lagrange zero q at [] e h on_circle genuine = absurd (omega (arith, e))
    lagrange zero q at (x ∷ []) e h on_circle genuine =
        ring laws.ring (x ∷ [])
        (sum (prod unit (sum (prod (var 0) (prod unit unit)) (con 0))) (con 0))
        (sum (prod (var 0) (prod unit unit)) (con 0)) refl
    lagrange zero q at (x ∷ y ∷ c) e h on_circle genuine = absurd (omega (arith, e))
    lagrange (suc m) q at c e h on_circle genuine =
        let ring_laws = laws.ring in
        let t = factor k m q in
        let v = factor k m at in
        let lo = take (2 ^ m) c in
        let hi = take (2 ^ m) (drop (2 ^ m) c) in
        let halves = halves_of k m t c e in
        let same : length lo ≡ length hi = halves.low ∙ sym halves.high in
        let q' = second_half k gen m q in
        let there = second_half-on_circle ring_laws gens m q (omega arith) on_circle in
        let first = points k gen m q in
        let second = points k gen m q' in
        let split = split_values ring_laws gens m q c e (omega arith) on_circle in
        let low_value : dot k (map (weight k m at) first) (map (value k (lower k t lo hi)) first) ≡
        k.add (value k lo at) (k.mul (value k hi at) t) =
        lagrange m q at (lower k t lo hi) halves.lower (omega arith) on_circle
        (first-genuine laws m q genuine) ∙ value-low ring_laws t lo hi at same in
        let high_value : dot k (map (weight k m at) second)
        (map (value k (upper k t lo hi)) second) ≡ k.add (value k lo at)
        (k.mul (value k hi at) (k.neg t)) =
        lagrange m q' at (upper k t lo hi) halves.upper (omega arith) there
        (second-genuine laws gens m q (omega arith) on_circle genuine)
        ∙ ap (λ xs. value k xs at) (high-low ring_laws t lo hi)
        ∙ value-low ring_laws (k.neg t) lo hi at same in
        let w1 = k.mul (k.add t v) (k.inv (k.add t t)) in
        let w2 = k.mul (k.add (k.neg t) v) (k.inv (k.add (k.neg t) (k.neg t))) in
        let sum1 : dot k (map (weight k (suc m) at) first) (map (value k c) first) ≡ k.mul
        (k.add (value k lo at) (k.mul (value k hi at) t)) w1 =
        half-sum m q at t c (lower k t lo hi) split.on_first split.first
        ∙ ap (λ s. k.mul s w1) low_value in
        let sum2 : dot k (map (weight k (suc m) at) second) (map (value k c) second) ≡ k.mul
        (k.add (value k lo at) (k.mul (value k hi at) (k.neg t))) w2 =
        half-sum m q' at (k.neg t) c (upper k t lo hi) split.on_second split.second
        ∙ ap (λ s. k.mul s w2) high_value in
        ap (λ ws. dot k ws (map (value k c) (first ++ second)))
        (map-append (weight k (suc m) at) first second)
        ∙ ap (dot k (map (weight k (suc m) at) first ++ map (weight k (suc m) at) second))
        (map-append (value k c) first second)
        ∙ dot-append ring_laws (map (weight k (suc m) at) first) (map (weight k (suc m) at) second)
        (map (value k c) first) (map (value k c) second)
        (length-map first (weight k (suc m) at) ∙ sym (length-map first (value k c)))
        ∙ ap (λ s. k.add s (dot k (map (weight k (suc m) at) second) (map (value k c) second))) sum1
        ∙ ap (k.add (k.mul (k.add (value k lo at) (k.mul (value k hi at) t)) w1)) sum2
        ∙ halves-add_up (value k lo at) (value k hi at) t v
        (factor-nonzero laws m q on_circle genuine)
        ∙ split.whole at
