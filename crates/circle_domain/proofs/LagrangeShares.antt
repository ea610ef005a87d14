-- The shares of the points of a genuine domain, scaled, are the values of their Lagrange
-- polynomials.
use Rattle.std.specs.Prelude.{◌≡◌, ◌≢◌, ℕ, ◌+◌, ◌-◌, ◌^◌, ◌<◌, ◌≤◌, List, [], ◌∷◌, ◌++◌, length}
use Rattle.std.specs.Prelude.{map}
use Rattle.std.specs.List.{AllByRecursion}
use Rattle.std.proofs.Common.{zero, suc, sym, ◌∙◌, ap, refl, arith}
use Rattle.circle_field.specs.Field.{FieldOps, FieldLaws, sub, nth_power, two}
use Rattle.circle_field.specs.Ring.{var, con, unit, plus as sum, times as prod, minus}
use Rattle.circle_field.specs.RingSound.{ring}
use Rattle.circle_field.specs.RingCombine.{given, combine}
use Rattle.circle_field.specs.RingFacts.{neg_mul, mul_neg}
use Rattle.circle_field.specs.Circle.{Coordinates, IsOnCircle, AreGenerators, plus, opposite}
use Rattle.circle_field.specs.Circle.{origin, times}
use Rattle.circle_field.specs.CircleGroup.{plus-origin, plus-on_circle}
use Rattle.circle_field.proofs.Inverses.{nonzero_product, inverse_unique, one_nonzero}
use Rattle.circle_point.specs.Basis.{value}
use Rattle.circle_point.proofs.Multiples.{iterated_x-times, times-on_circle}
use Rattle.circle_point.proofs.Selectors.{y_multiple}
use Rattle.circle_domain.specs.Layers.{factor}
use Rattle.circle_commit.specs.DotProduct.{dot}
use Rattle.circle_domain.specs.Lagrange.{lagrange_at as weight, shares}
use Rattle.circle_domain.specs.Order.{coset, with_opposites}
use Rattle.circle_domain.proofs.Blocks.{all-append, times-plus, times-generator-past}
use Rattle.circle_domain.proofs.Blocks.{points-cfft_order}
use Rattle.circle_domain.proofs.Inversion.{factor-nonzero, first-genuine, flat-point, twice}
use Rattle.circle_domain.proofs.LagrangePolynomials.{neg-nonzero, lagrange}
use Rattle.circle_domain.proofs.LagrangeQuotients.{share, doubled, weight-share, normalised}

pub all-split : {X : Type 0} (P : X → Type 0) (xs ys : List X) → AllByRecursion P (xs ++ ys) →
    AllByRecursion P xs × AllByRecursion P ys
all-split P [] ys h = (tt, h)
all-split P (x ∷ xs) ys h = let rest = all-split P xs ys h.1 in ((h.0, rest.0), rest.1)

-- the shares of one point more
pub shares-more : {F : Type 0} (k : FieldOps F) (q : Coordinates F) (ps : List (Coordinates F))
    (p : Coordinates F) →
    shares k q (ps ++ p ∷ [])
    ≡ (shares k q ps ++ k.mul (k.add p.y q.y) (k.inv (sub k p.x q.x)) ∷ [])
    ++ k.mul (sub k p.y q.y) (k.inv (sub k p.x q.x)) ∷ []
shares-more k q [] p = refl
shares-more k q (r ∷ ps) p =
    ap (λ rest. k.mul (k.add r.y q.y) (k.inv (sub k r.x q.x))
    ∷ k.mul (sub k r.y q.y) (k.inv (sub k r.x q.x)) ∷ rest) (shares-more k q ps p)

pub length-shares : {F : Type 0} (k : FieldOps F) (q : Coordinates F) (ps : List (Coordinates F)) →
    length (shares k q ps) ≡ length ps + length ps
length-shares k q [] = refl
length-shares k q (p ∷ ps) = let e = length-shares k q ps in omega (arith, e)

module _ {F : Type 0} {k : FieldOps F} (laws : FieldLaws k) where
  pub dot-multiple : (u : F) (xs ys : List F) → dot k (map (λ x. k.mul x u) xs) ys
      ≡ k.mul (dot k xs ys) u
  dot-multiple u [] ys = ring laws.ring (u ∷ []) (con 0) (prod (con 0) (var 0)) refl
  dot-multiple u (x ∷ xs) [] = ring laws.ring (u ∷ []) (con 0) (prod (con 0) (var 0)) refl
  dot-multiple u (x ∷ xs) (y ∷ ys) =
      ap (k.add (k.mul (k.mul x u) y)) (dot-multiple u xs ys)
      ∙ ring laws.ring (x ∷ u ∷ y ∷ dot k xs ys ∷ [])
      (sum (prod (prod (var 0) (var 1)) (var 2)) (prod (var 3) (var 1)))
      (prod (sum (prod (var 0) (var 2)) (var 3)) (var 1)) refl

  pub power-nonzero : (n : ℕ) → nth_power k (two k) n ≢ k.zero
  power-nonzero zero = one_nonzero laws
  power-nonzero (suc n) = nonzero_product laws (two k) (nth_power k (two k) n) laws.two_nonzero
      (power-nonzero n)

  inverse-neg : (a : F) → a ≢ k.zero → k.inv (k.neg a) ≡ k.neg (k.inv a)
  inverse-neg a h =
      sym (inverse_unique laws (k.neg a) (k.neg (k.inv a)) (neg-nonzero laws a h)
      (combine laws.ring (a ∷ k.inv a ∷ []) (prod (minus (var 1)) (minus (var 0))) unit
      (given unit (prod (var 0) (var 1)) unit ∷ []) refl (laws.mul_inv a h, tt)))

  doubled-opposite : (m : ℕ) (p : Coordinates F) → doubled k (suc m) (opposite k p)
      ≡ k.neg (doubled k (suc m) p)
  doubled-opposite zero p =
      ring laws.ring (p.y ∷ []) (prod unit (sum (minus (var 0)) (minus (var 0))))
      (minus (prod unit (sum (var 0) (var 0)))) refl
  doubled-opposite (suc m) p =
      ap (λ d. k.mul d (k.add (factor k (suc m) p) (factor k (suc m) p))) (doubled-opposite m p)
      ∙ neg_mul laws.ring (doubled k (suc m) p) (k.add (factor k (suc m) p) (factor k (suc m) p))

  factor-opposite-nonzero : (i : ℕ) (p : Coordinates F) → factor k i p ≢ k.zero →
      factor k i (opposite k p) ≢ k.zero
  factor-opposite-nonzero zero p h = neg-nonzero laws p.y h
  factor-opposite-nonzero (suc i) p h = h

  genuine-below : (m j : ℕ) (p : Coordinates F) → times k (2 ^ (j + m)) p ≢ origin k →
      times k (2 ^ m) p ≢ origin k
  genuine-below m zero p h = let e : 0 + m ≡ m = omega arith in
      λ bad. h (ap (λ i. times k (2 ^ i) p) e ∙ bad)
  genuine-below m (suc j) p h =
      let e : suc j + m ≡ suc (j + m) = omega arith in
      genuine-below m j p
      (first-genuine laws (j + m) p (λ bad. h (ap (λ i. times k (2 ^ i) p) e ∙ bad)))

  module _ (m : ℕ) (s q : Coordinates F) (on_circle : IsOnCircle k s)
      (genuine : times k (2 ^ suc m) s ≢ origin k) where
    -- what a point of the first half is
    abbrev InFirstHalf : Coordinates F → Type 0
    InFirstHalf p = IsOnCircle k p × (times k (2 ^ m) p ≡ times k (2 ^ m) s)
        × (sub k p.x q.x ≢ k.zero)

    -- the normalisation of the first point
    abbrev pub s_p : F
    s_p = k.neg (k.mul (nth_power k (two k) (suc m)) (times k (2 ^ m) s).y)

    abbrev pub scale : F
    scale = k.mul (sub k (factor k (suc m) q) (factor k (suc m) s)) (k.inv s_p)

    pub s_p-nonzero : s_p ≢ k.zero
    s_p-nonzero =
        neg-nonzero laws (k.mul (nth_power k (two k) (suc m)) (times k (2 ^ m) s).y)
        (nonzero_product laws (nth_power k (two k) (suc m)) (times k (2 ^ m) s).y
        (power-nonzero (suc m))
        (λ flat. genuine
        (twice laws m s
        ∙ flat-point laws (times k (2 ^ m) s) (times-on_circle laws.ring (2 ^ m) s on_circle)
        flat)))

    point-weight : (p : Coordinates F) → InFirstHalf p → weight k (suc m) q p
        ≡ k.mul (share k q p) scale
    point-weight p h =
        let there : times k (2 ^ suc m) p ≢ origin k =
        λ bad. genuine (twice laws m s ∙ ap (λ r. plus k r r) (sym h.1) ∙ sym (twice laws m p)
        ∙ bad) in
        let nonzero : (i : ℕ) → i < suc m → factor k i p ≢ k.zero =
        λ i lt. let e : (m - i) + suc i ≡ suc m = omega (arith, lt) in
        factor-nonzero laws i p h.0
        (genuine-below (suc i) (m - i) p
        (λ bad. there (ap (λ n. times k (2 ^ n) p) (sym e) ∙ bad))) in
        let same_x : factor k (suc m) p ≡ factor k (suc m) s =
        iterated_x-times laws.ring m p h.0 ∙ ap (λ (r : Coordinates F). r.x) h.1
        ∙ sym (iterated_x-times laws.ring m s on_circle) in
        weight-share laws m q p s_p nonzero h.2 s_p-nonzero
        (normalised laws m p (times k (2 ^ m) p).y (y_multiple laws m p h.0)
        ∙ ap (λ (r : Coordinates F). k.neg (k.mul (nth_power k (two k) (suc m)) r.y)) h.1)
        ∙ ap (λ x. k.mul (share k q p) (k.mul (sub k (factor k (suc m) q) x) (k.inv s_p))) same_x

    opposite-weight : (p : Coordinates F) → InFirstHalf p → weight k (suc m) q (opposite k p)
        ≡ k.mul (k.mul (sub k p.y q.y) (k.inv (sub k p.x q.x))) scale
    opposite-weight p h =
        let o = opposite k p in
        let there : times k (2 ^ suc m) p ≢ origin k =
        λ bad. genuine (twice laws m s ∙ ap (λ r. plus k r r) (sym h.1) ∙ sym (twice laws m p)
        ∙ bad) in
        let nonzero : (i : ℕ) → i < suc m → factor k i o ≢ k.zero =
        λ i lt. let e : (m - i) + suc i ≡ suc m = omega (arith, lt) in
        factor-opposite-nonzero i p
        (factor-nonzero laws i p h.0
        (genuine-below (suc i) (m - i) p
        (λ bad. there (ap (λ n. times k (2 ^ n) p) (sym e) ∙ bad)))) in
        let same_x : factor k (suc m) o ≡ factor k (suc m) s =
        iterated_x-times laws.ring m p h.0 ∙ ap (λ (r : Coordinates F). r.x) h.1
        ∙ sym (iterated_x-times laws.ring m s on_circle) in
        let normal : k.neg (k.mul (nth_power k (two k) m) (doubled k (suc m) o)) ≡ k.neg s_p =
        ap (λ d. k.neg (k.mul (nth_power k (two k) m) d)) (doubled-opposite m p)
        ∙ ap k.neg (mul_neg laws.ring (nth_power k (two k) m) (doubled k (suc m) p))
        ∙ ap k.neg (normalised laws m p (times k (2 ^ m) p).y (y_multiple laws m p h.0)
        ∙ ap (λ (r : Coordinates F). k.neg (k.mul (nth_power k (two k) (suc m)) r.y)) h.1) in
        let v = sub k (factor k (suc m) q) (factor k (suc m) s) in
        weight-share laws m q o (k.neg s_p) nonzero h.2 (neg-nonzero laws s_p s_p-nonzero) normal
        ∙ ap (λ x. k.mul (share k q o) (k.mul (sub k (factor k (suc m) q) x) (k.inv (k.neg s_p))))
        same_x
        ∙ ap (λ i. k.mul (share k q o) (k.mul v i)) (inverse-neg s_p s_p-nonzero)
        ∙ ring laws.ring (p.y ∷ q.y ∷ k.inv (sub k p.x q.x) ∷ v ∷ k.inv s_p ∷ [])
        (prod (prod (sum (minus (var 0)) (var 1)) (var 2)) (prod (var 3) (minus (var 4))))
        (prod (prod (sum (var 0) (minus (var 1))) (var 2)) (prod (var 3) (var 4))) refl

    shares-weights : (ps : List (Coordinates F)) → AllByRecursion InFirstHalf ps →
        map (weight k (suc m) q) (with_opposites k ps) ≡ map (λ a. k.mul a scale) (shares k q ps)
    shares-weights [] all = refl
    shares-weights (p ∷ ps) all =
        ap (λ w. w ∷ weight k (suc m) q (opposite k p)
        ∷ map (weight k (suc m) q) (with_opposites k ps)) (point-weight p all.0)
        ∙ ap (λ w. k.mul (share k q p) scale ∷ w ∷ map (weight k (suc m) q) (with_opposites k ps))
        (opposite-weight p all.0)
        ∙ ap (λ ws. k.mul (share k q p) scale
        ∷ k.mul (k.mul (sub k p.y q.y) (k.inv (sub k p.x q.x))) scale ∷ ws)
        (shares-weights ps all.1)

    module _ {gen : ℕ → Coordinates F} {bits : ℕ} (gens : AreGenerators k bits gen) where
      first_half : (i : ℕ) (p : Coordinates F) → i ≤ m → i ≤ bits → IsOnCircle k p →
          times k (2 ^ m) p ≡ times k (2 ^ m) s →
          AllByRecursion (λ r. sub k r.x q.x ≢ k.zero) (coset k gen i p) →
          AllByRecursion InFirstHalf (coset k gen i p)
      first_half zero p h g c e apart = ((c, e, apart.0), tt)
      first_half (suc i) p h g c e apart =
          let p' = plus k p (gen (suc i)) in
          let split = all-split (λ r. sub k r.x q.x ≢ k.zero) (coset k gen i p) (coset k gen i p')
          apart in
          all-append InFirstHalf (coset k gen i p) (coset k gen i p')
          (first_half i p (omega (arith, h)) (omega (arith, g)) c e split.0)
          (first_half i p' (omega (arith, h)) (omega (arith, g))
          (plus-on_circle laws.ring p (gen (suc i)) c (gens.on_circle (suc i) g))
          (times-plus laws.ring (2 ^ m) p (gen (suc i))
          ∙ ap (plus k (times k (2 ^ m) p)) (times-generator-past laws.ring gens m (suc i) h g)
          ∙ plus-origin laws.ring (times k (2 ^ m) p) ∙ e)
          split.1)

      -- the values at the points of a genuine domain, each times its share, add up to the value but
      -- for the scale
      pub shares-sum : (c : List F) → length c ≡ 2 ^ suc m → suc m ≤ suc bits →
          AllByRecursion (λ r. sub k r.x q.x ≢ k.zero) (coset k gen m s) →
          k.mul
          (dot k (shares k q (coset k gen m s))
          (map (value k c) (with_opposites k (coset k gen m s)))) scale ≡ value k c q
      shares-sum c long fits apart =
          let ps = coset k gen m s in
          let all = first_half m s (omega arith) (omega (arith, fits)) on_circle refl apart in
          let order = points-cfft_order k gen (suc m) s (omega arith) in
          let e : suc m - 1 ≡ m = omega arith in
          let values = map (value k c) (with_opposites k ps) in
          sym (dot-multiple scale (shares k q ps) values)
          ∙ ap (λ ws. dot k ws values) (sym (shares-weights ps all))
          ∙ ap (λ rs. dot k (map (weight k (suc m) q) rs) (map (value k c) rs))
          (ap (λ i. with_opposites k (coset k gen i s)) (sym e) ∙ sym order)
          ∙ lagrange laws gens (suc m) s q c long fits on_circle genuine
