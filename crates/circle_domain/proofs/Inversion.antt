-- The layers of a genuine block can be undone, and multiples go through them.
use Rattle.std.specs.Prelude.{◌≡◌, ◌≢◌, ℕ, ◌^◌, ◌≤◌, List, [], ◌∷◌, ◌++◌, length, map, take, drop}
use Rattle.std.proofs.Common.{zero, suc, sym, ◌∙◌, ap, refl, arith}
use Rattle.std.proofs.lemmas.List.{map-append, take-map, take_at, drop_at}
use Rattle.circle_field.specs.Field.{FieldOps, RingLaws, FieldLaws, sub}
use Rattle.circle_field.specs.Ring.{Expr, var, con, unit, plus as sum, times as prod, minus}
use Rattle.circle_field.specs.RingSound.{ring}
use Rattle.circle_field.specs.RingCombine.{given, combine}
use Rattle.circle_field.specs.RingFacts.{mul_one}
use Rattle.circle_field.specs.Circle.{Coordinates, IsOnCircle, AreGenerators, plus, opposite}
use Rattle.circle_field.specs.Circle.{origin, times}
use Rattle.circle_field.specs.CircleGroup.{plus-on_circle, plus-origin, plus-opposite}
use Rattle.circle_field.specs.CircleGroup.{same_coordinates}
use Rattle.circle_domain.specs.Layers.{factor, second_half}
use Rattle.circle_point.proofs.Multiples.{times-one, times-on_circle, iterated_x-times}
use Rattle.circle_domain.proofs.Columns.{drop-map}
use Rattle.circle_domain.proofs.Blocks.{times-plus, times-pow-suc, times-generator-past}
use Rattle.circle_domain.proofs.Blocks.{second_half-on_circle}
use Rattle.circle_domain.proofs.Transform.{lower, upper, finish, length-finish, halves_of}

module _ {F : Type 0} {k : FieldOps F} (laws : RingLaws k) (a : F) where
  lower-scaled : (t : F) (xs ys : List F) → lower k t (map (k.mul a) xs) (map (k.mul a) ys)
      ≡ map (k.mul a) (lower k t xs ys)
  lower-scaled t [] ys = refl
  lower-scaled t (x ∷ xs) [] = refl
  lower-scaled t (x ∷ xs) (y ∷ ys) =
      ap (λ v. v ∷ lower k t (map (k.mul a) xs) (map (k.mul a) ys))
      (ring laws (a ∷ x ∷ y ∷ t ∷ [])
      (sum (prod (var 0) (var 1)) (prod (prod (var 0) (var 2)) (var 3)))
      (prod (var 0) (sum (var 1) (prod (var 2) (var 3)))) refl)
      ∙ ap (λ rest. k.mul a (k.add x (k.mul y t)) ∷ rest) (lower-scaled t xs ys)

  upper-scaled : (t : F) (xs ys : List F) → upper k t (map (k.mul a) xs) (map (k.mul a) ys)
      ≡ map (k.mul a) (upper k t xs ys)
  upper-scaled t [] ys = refl
  upper-scaled t (x ∷ xs) [] = refl
  upper-scaled t (x ∷ xs) (y ∷ ys) =
      ap (λ v. v ∷ upper k t (map (k.mul a) xs) (map (k.mul a) ys))
      (ring laws (a ∷ x ∷ y ∷ t ∷ [])
      (sum (prod (var 0) (var 1)) (minus (prod (prod (var 0) (var 2)) (var 3))))
      (prod (var 0) (sum (var 1) (minus (prod (var 2) (var 3))))) refl)
      ∙ ap (λ rest. k.mul a (sub k x (k.mul y t)) ∷ rest) (upper-scaled t xs ys)

  -- the layers of a multiple
  pub finish-scaled : (gen : ℕ → Coordinates F) (m : ℕ) (q : Coordinates F) (xs : List F) →
      finish k gen m q (map (k.mul a) xs) ≡ map (k.mul a) (finish k gen m q xs)
  finish-scaled gen zero q xs = refl
  finish-scaled gen (suc m) q xs =
      let h = 2 ^ m in
      let t = factor k m q in
      let q' = second_half k gen m q in
      let lo = take h xs in
      let hi = take h (drop h xs) in
      let first : take h (map (k.mul a) xs) ≡ map (k.mul a) lo = take-map (k.mul a) h xs in
      let second : take h (drop h (map (k.mul a) xs)) ≡ map (k.mul a) hi =
      ap (take h) (drop-map (k.mul a) h xs) ∙ take-map (k.mul a) h (drop h xs) in
      ap (λ l. finish k gen m q (lower k t l (take h (drop h (map (k.mul a) xs))))
      ++ finish k gen m q' (upper k t l (take h (drop h (map (k.mul a) xs))))) first
      ∙ ap (λ u. finish k gen m q (lower k t (map (k.mul a) lo) u)
      ++ finish k gen m q' (upper k t (map (k.mul a) lo) u)) second
      ∙ ap
      (λ l. finish k gen m q l
      ++ finish k gen m q' (upper k t (map (k.mul a) lo) (map (k.mul a) hi)))
      (lower-scaled t lo hi)
      ∙ ap (λ u. finish k gen m q (map (k.mul a) (lower k t lo hi)) ++ finish k gen m q' u)
      (upper-scaled t lo hi)
      ∙ ap (λ l. l ++ finish k gen m q' (map (k.mul a) (upper k t lo hi)))
      (finish-scaled gen m q (lower k t lo hi))
      ∙ ap (λ u. map (k.mul a) (finish k gen m q (lower k t lo hi)) ++ u)
      (finish-scaled gen m q' (upper k t lo hi))
      ∙ sym
      (map-append (k.mul a) (finish k gen m q (lower k t lo hi))
      (finish k gen m q' (upper k t lo hi)))

module _ {F : Type 0} {k : FieldOps F} (laws : FieldLaws k) where
  -- a factor that is not 0 cancels
  cancel : (a b c : F) → c ≢ k.zero → k.mul a c ≡ k.mul b c → a ≡ b
  cancel a b c h e =
      sym (mul_one laws.ring a) ∙ ap (k.mul a) (sym (laws.mul_inv c h))
      ∙ sym (laws.ring.mul_assoc a c (k.inv c))
      ∙ ap (λ v. k.mul v (k.inv c)) e
      ∙ laws.ring.mul_assoc b c (k.inv c) ∙ ap (k.mul b) (laws.mul_inv c h) ∙ mul_one laws.ring b

  -- sums and differences by a factor that is not 0 determine the halves
  halves_told : (t : F) (xs ys us vs : List F) → t ≢ k.zero → length xs ≡ length ys →
      length us ≡ length vs → length xs ≡ length us →
      lower k t xs ys ≡ lower k t us vs → upper k t xs ys ≡ upper k t us vs → (xs ≡ us) × (ys ≡ vs)
  halves_told t [] [] [] [] h d e f l u = (refl, refl)
  halves_told t [] [] [] (v ∷ vs) h d e f l u = absurd (omega (arith, e))
  halves_told t [] [] (u0 ∷ us) vs h d e f l u = absurd (omega (arith, f))
  halves_told t [] (y ∷ ys) us vs h d e f l u = absurd (omega (arith, d))
  halves_told t (x ∷ xs) [] us vs h d e f l u = absurd (omega (arith, d))
  halves_told t (x ∷ xs) (y ∷ ys) [] vs h d e f l u = absurd (omega (arith, f))
  halves_told t (x ∷ xs) (y ∷ ys) (u0 ∷ us) [] h d e f l u = absurd (omega (arith, e))
  halves_told t (x ∷ xs) (y ∷ ys) (u0 ∷ us) (v ∷ vs) h d e f l u =
      let rest = halves_told t xs ys us vs h (omega (arith, d)) (omega (arith, e))
      (omega (arith, f)) (cc) (cc) in
      let a : k.add x (k.mul y t) ≡ k.add u0 (k.mul v t) = cc in
      let b : sub k x (k.mul y t) ≡ sub k u0 (k.mul v t) = cc in
      let env : List F = x ∷ y ∷ u0 ∷ v ∷ t ∷ [] in
      let pl : Expr → Expr → Expr = λ p q. sum p (prod q (var 4)) in
      let mi : Expr → Expr → Expr = λ p q. sum p (minus (prod q (var 4))) in
      let two_x : k.mul x (k.add k.one k.one) ≡ k.mul u0 (k.add k.one k.one) =
      combine laws.ring env (prod (var 0) (sum unit unit)) (prod (var 2) (sum unit unit))
      (given unit (pl (var 0) (var 1)) (pl (var 2) (var 3))
      ∷ given unit (mi (var 0) (var 1)) (mi (var 2) (var 3)) ∷ []) refl (a, (b, tt)) in
      let two_y : k.mul (k.mul y t) (k.add k.one k.one) ≡ k.mul (k.mul v t) (k.add k.one k.one) =
      combine laws.ring env (prod (prod (var 1) (var 4)) (sum unit unit))
      (prod (prod (var 3) (var 4)) (sum unit unit))
      (given unit (pl (var 0) (var 1)) (pl (var 2) (var 3))
      ∷ given (minus unit) (mi (var 0) (var 1)) (mi (var 2) (var 3)) ∷ []) refl (a, (b, tt)) in
      let same_x : x ≡ u0 = cancel x u0 (k.add k.one k.one) laws.two_nonzero two_x in
      let same_y : y ≡ v =
      cancel y v t h
      (cancel (k.mul y t) (k.mul v t) (k.add k.one k.one) laws.two_nonzero two_y) in (
        ap (λ w. w ∷ xs) same_x ∙ ap (λ ws. u0 ∷ ws) rest.0,
        ap (λ w. w ∷ ys) same_y
            ∙ ap (λ ws. v ∷ ws) rest.1,
      )

  -- a point with y = 0 is half of the neutral one, and one with x = 0 a quarter
  pub flat-point : (p : Coordinates F) → IsOnCircle k p → p.y ≡ k.zero → plus k p p ≡ origin k
  flat-point p c e =
      let x : Expr = var 0 in let y : Expr = var 1 in
      let env : List F = p.x ∷ p.y ∷ [] in
      same_coordinates
      (combine laws.ring env (sum (prod x x) (minus (prod y y))) unit
      (given unit (sum (prod x x) (prod y y)) unit ∷ given (minus (sum y y)) y (con 0) ∷ []) refl
      (c, (e, tt)))
      (combine laws.ring env (sum (prod x y) (prod y x)) (con 0) (given (sum x x) y (con 0) ∷ [])
      refl (e, tt))

  steep-point : (p : Coordinates F) → IsOnCircle k p → p.x ≡ k.zero →
      plus k (plus k p p) (plus k p p) ≡ origin k
  steep-point p c e =
      let d = plus k p p in
      let x : Expr = var 0 in let y : Expr = var 1 in
      let flat : d.y ≡ k.zero =
      combine laws.ring (p.x ∷ p.y ∷ []) (sum (prod x y) (prod y x)) (con 0)
      (given (sum y y) x (con 0) ∷ []) refl (e, tt) in
      flat-point d (plus-on_circle laws.ring p p c c) flat

  -- one more doubling of the multiple
  pub twice : (n : ℕ) (q : Coordinates F) → times k (2 ^ suc n) q
      ≡ plus k (times k (2 ^ n) q) (times k (2 ^ n) q)
  twice n q = times-pow-suc laws.ring n q ∙ times-plus laws.ring (2 ^ n) q q

  pub factor-nonzero : (m : ℕ) (q : Coordinates F) → IsOnCircle k q → times k (2 ^ suc m) q ≢ origin
      k → factor k m q ≢ k.zero
  factor-nonzero zero q c h =
      λ e. h (twice 0 q ∙ ap (λ r. plus k r r) (times-one laws.ring q) ∙ flat-point q c e)
  factor-nonzero (suc m) q c h = λ e.
      let r = times k (2 ^ m) q in
      h (twice (suc m) q ∙ ap (λ p. plus k p p) (twice m q)
      ∙ steep-point r (times-on_circle laws.ring (2 ^ m) q c)
      (sym (iterated_x-times laws.ring m q c) ∙ e))

  pub first-genuine : (m : ℕ) (q : Coordinates F) → times k (2 ^ suc m) q ≢ origin k →
      times k (2 ^ m) q ≢ origin k
  first-genuine m q h =
      λ e. h (twice m q ∙ ap (λ r. plus k r r) e ∙ plus-origin laws.ring (origin k))

  module _ {gen : ℕ → Coordinates F} {bits : ℕ} (gens : AreGenerators k bits gen) where
    pub second-genuine : (m : ℕ) (q : Coordinates F) → m ≤ bits → IsOnCircle k q →
        times k (2 ^ suc m) q ≢ origin k → times k (2 ^ m) (second_half k gen m q) ≢ origin k
    second-genuine zero q g c h = λ e.
        let o : opposite k q ≡ origin k = sym (times-one laws.ring (opposite k q)) ∙ e in
        first-genuine 0 q h (times-one laws.ring q ∙ sym (plus-origin laws.ring q)
        ∙ ap (plus k q) (sym o) ∙ plus-opposite laws.ring q c)
    second-genuine (suc m) q g c h = λ e.
        first-genuine (suc m) q h
        (sym (plus-origin laws.ring (times k (2 ^ suc m) q))
        ∙ ap (plus k (times k (2 ^ suc m) q))
        (sym (times-generator-past laws.ring gens (suc m) (suc m) (omega arith) g))
        ∙ sym (times-plus laws.ring (2 ^ suc m) q (gen (suc m))) ∙ e)

    -- the layers of a genuine block determine its coefficients
    pub finish-injective : (m : ℕ) (q : Coordinates F) (xs ys : List F) → length xs ≡ 2 ^ m →
        length ys ≡ 2 ^ m → m ≤ suc bits → IsOnCircle k q → times k (2 ^ m) q ≢ origin k →
        finish k gen m q xs ≡ finish k gen m q ys → xs ≡ ys
    finish-injective zero q xs ys d e g c h same = same
    finish-injective (suc m) q xs ys d e g c h same =
        let half = 2 ^ m in
        let t = factor k m q in
        let q' = second_half k gen m q in
        let a = take half xs in
        let b = take half (drop half xs) in
        let u = take half ys in
        let v = take half (drop half ys) in
        let of_xs = halves_of k m t xs d in
        let of_ys = halves_of k m t ys e in
        let f = finish k gen m q (lower k t a b) in
        let f' = finish k gen m q' (upper k t a b) in
        let i = finish k gen m q (lower k t u v) in
        let i' = finish k gen m q' (upper k t u v) in
        let lf : length f ≡ half = length-finish k gen m q (lower k t a b) of_xs.lower in
        let li : length i ≡ half = length-finish k gen m q (lower k t u v) of_ys.lower in
        let first : f ≡ i = sym (take_at f f' half lf) ∙ ap (take half) same
        ∙ take_at i i' half li in
        let second : f' ≡ i' = sym (drop_at f f' half lf) ∙ ap (drop half) same
        ∙ drop_at i i' half li in
        let told = halves_told t a b u v (factor-nonzero m q c h) (of_xs.low ∙ sym of_xs.high)
        (of_ys.low ∙ sym of_ys.high) (of_xs.low ∙ sym of_ys.low)
        (finish-injective m q (lower k t a b) (lower k t u v) of_xs.lower of_ys.lower (omega arith)
        c (first-genuine m q h) first)
        (finish-injective m q' (upper k t a b) (upper k t u v) of_xs.upper of_ys.upper (omega arith)
        (second_half-on_circle laws.ring gens m q (omega arith) c)
        (second-genuine m q (omega arith) c h) second) in
        sym of_xs.joined ∙ ap (λ l. l ++ b) told.0 ∙ ap (λ r. u ++ r) told.1 ∙ of_ys.joined
