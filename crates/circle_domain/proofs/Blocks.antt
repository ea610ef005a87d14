-- The points of a block and the factors of its halves.
use Rattle.std.specs.Prelude.{◌≡◌, ℕ, ◌+◌, ◌-◌, ◌^◌, ◌<◌, ◌≤◌, List, [], ◌∷◌, ◌++◌, length, take}
use Rattle.std.specs.List.{AllByRecursion}
use Rattle.std.proofs.Common.{zero, suc, sym, ◌∙◌, ap, refl, arith, length-append}
use Rattle.std.proofs.Math.Nat.{pow-suc}
use Rattle.std.proofs.lemmas.List.{take_all, take-append-le}
use Rattle.circle_domain.proofs.Powers.{pow_within}
use Rattle.circle_field.specs.Field.{FieldOps, RingLaws}
use Rattle.circle_field.specs.Ring.{var, con, unit, plus as sum, times as prod, minus}
use Rattle.circle_field.specs.RingSound.{ring}
use Rattle.circle_field.specs.Circle.{Coordinates, at, IsOnCircle, AreGenerators, plus, opposite}
use Rattle.circle_field.specs.Circle.{origin, times}
use Rattle.circle_field.specs.CircleGroup.{plus_comm, plus_assoc, plus-origin, plus-on_circle}
use Rattle.circle_field.specs.CircleGroup.{opposite-on_circle}
use Rattle.circle_domain.specs.Order.{coset, cfft_order, with_opposites}
use Rattle.circle_domain.specs.Layers.{factor, second_half}
use Rattle.circle_point.proofs.Multiples.{times-one, times-double, iterated_x-times}

pub all-append : {X : Type 0} (P : X → Type 0) (xs ys : List X) → AllByRecursion P xs →
    AllByRecursion P ys → AllByRecursion P (xs ++ ys)
all-append P [] ys h g = g
all-append P (x ∷ xs) ys h g = (h.0, all-append P xs ys h.1 g)

module _ {F : Type 0} (k : FieldOps F) (gen : ℕ → Coordinates F) where
  -- the 2^m points of a block from q on
  abbrev pub points : ℕ → Coordinates F → List (Coordinates F)
  points zero q = q ∷ []
  points (suc m) q = points m q ++ points m (second_half k gen m q)

  with_opposites-append : (xs ys : List (Coordinates F)) → with_opposites k (xs ++ ys)
      ≡ with_opposites k xs ++ with_opposites k ys
  with_opposites-append [] ys = refl
  with_opposites-append (x ∷ xs) ys =
      ap (λ rest. x ∷ opposite k x ∷ rest) (with_opposites-append xs ys)

  points-coset : (m : ℕ) (q : Coordinates F) → points (suc m) q ≡ with_opposites k (coset k gen m q)
  points-coset zero q = refl
  points-coset (suc m) q =
      ap (λ xs. xs ++ points (suc m) (second_half k gen (suc m) q)) (points-coset m q)
      ∙ ap (λ ys. with_opposites k (coset k gen m q) ++ ys)
      (points-coset m (plus k q (gen (suc m))))
      ∙ sym (with_opposites-append (coset k gen m q) (coset k gen m (plus k q (gen (suc m)))))

  -- they are those of the domain
  pub points-cfft_order : (n : ℕ) (q : Coordinates F) → 1 ≤ n → points n q ≡ cfft_order k gen n q
  points-cfft_order zero q h = absurd (omega arith)
  points-cfft_order (suc m) q h =
      let e : m ≡ suc m - 1 = omega arith in
      points-coset m q ∙ ap (λ n. with_opposites k (coset k gen n q)) e

module _ {F : Type 0} {k : FieldOps F} (laws : RingLaws k) where
  -- the multiple of a sum
  pub times-plus : (n : ℕ) (p q : Coordinates F) → times k n (plus k p q)
      ≡ plus k (times k n p) (times k n q)
  times-plus zero p q = sym (plus-origin laws (origin k))
  times-plus (suc n) p q =
      let a = times k n p in
      let b = times k n q in
      ap (plus k (plus k p q)) (times-plus n p q)
      ∙ plus_assoc laws p q (plus k a b)
      ∙ ap (plus k p) (sym (plus_assoc laws q a b) ∙ ap (λ r. plus k r b) (plus_comm laws q a)
      ∙ plus_assoc laws a q b)
      ∙ sym (plus_assoc laws p a (plus k q b))

  pub times-pow-suc : (n : ℕ) (p : Coordinates F) → times k (2 ^ suc n) p
      ≡ times k (2 ^ n) (plus k p p)
  times-pow-suc n p =
      let e : 2 ^ suc n ≡ 2 ^ n + 2 ^ n = omega (arith, pow-suc 2 n) in
      ap (λ m. times k m p) e ∙ sym (times-double laws (2 ^ n) p)

  pub times-origin : (n : ℕ) → times k n (origin k) ≡ origin k
  times-origin zero = refl
  times-origin (suc n) = ap (plus k (origin k)) (times-origin n) ∙ plus-origin laws (origin k)

module _ {F : Type 0} {k : FieldOps F} (laws : RingLaws k) {gen : ℕ → Coordinates F} {bits : ℕ}
    (gens : AreGenerators k bits gen) where
  -- doublings of a generator
  pub times-generator : (a b : ℕ) → a + b ≤ bits → times k (2 ^ a) (gen (a + b)) ≡ gen b
  times-generator zero b h = let e : 0 + b ≡ b = omega arith in times-one laws (gen (0 + b))
      ∙ ap gen e
  times-generator (suc a) b h =
      let e : suc a + b ≡ suc (a + b) = omega arith in
      ap (λ n. times k (2 ^ suc a) (gen n)) e
      ∙ times-pow-suc laws a (gen (suc (a + b)))
      ∙ ap (times k (2 ^ a)) (gens.doubled (a + b) (omega arith))
      ∙ times-generator a b (omega arith)

  -- and one past the last
  pub times-generator-past : (a m : ℕ) → m ≤ a → m ≤ bits → times k (2 ^ a) (gen m) ≡ origin k
  times-generator-past zero zero h g = times-one laws (gen 0) ∙ gens.neutral
  times-generator-past zero (suc m) h g = absurd (omega arith)
  times-generator-past (suc a) zero h g = ap (times k (2 ^ suc a)) gens.neutral ∙ times-origin
      laws (2 ^ suc a)
  times-generator-past (suc a) (suc m) h g =
      times-pow-suc laws a (gen (suc m)) ∙ ap (times k (2 ^ a)) (gens.doubled m (omega arith))
      ∙ times-generator-past a m (omega arith) (omega arith)

  pub second_half-on_circle : (m : ℕ) (q : Coordinates F) → m ≤ bits → IsOnCircle k q →
      IsOnCircle k (second_half k gen m q)
  second_half-on_circle zero q h c = opposite-on_circle laws q c
  second_half-on_circle (suc m) q h c =
      plus-on_circle laws q (gen (suc m)) c (gens.on_circle (suc m) h)

  -- the factor of larger blocks is that of the first point
  factor-second_half : (i m : ℕ) (q : Coordinates F) → m < i → m ≤ bits → IsOnCircle k q →
      factor k i (second_half k gen m q) ≡ factor k i q
  factor-second_half zero m q h g c = absurd (omega arith)
  factor-second_half (suc i) zero q h g c = refl
  factor-second_half (suc i) (suc m) q h g c =
      let p = plus k q (gen (suc m)) in
      iterated_x-times laws i p (second_half-on_circle (suc m) q g c)
      ∙ ap (λ (r : Coordinates F). r.x) (times-plus laws (2 ^ i) q (gen (suc m))
      ∙ ap (plus k (times k (2 ^ i) q)) (times-generator-past i (suc m) (omega arith) g)
      ∙ plus-origin laws (times k (2 ^ i) q))
      ∙ sym (iterated_x-times laws i q c)

  -- the factor is one for all points of the block
  pub factor-points : (i m : ℕ) (q : Coordinates F) (t : F) → m ≤ i → m ≤ suc bits →
      IsOnCircle k q → factor k i q ≡ t → AllByRecursion (λ p. factor k i p ≡ t) (points k gen m q)
  factor-points i zero q t h g c e = (e, tt)
  factor-points i (suc m) q t h g c e =
      all-append (λ p. factor k i p ≡ t) (points k gen m q) (points k gen m (second_half k gen m q))
      (factor-points i m q t (omega arith) (omega arith) c e)
      (factor-points i m (second_half k gen m q) t (omega arith) (omega arith)
      (second_half-on_circle m q (omega arith) c)
      (factor-second_half i m q (omega arith) (omega arith) c ∙ e))

  -- and its opposite in the second half
  pub factor-opposite : (m : ℕ) (q : Coordinates F) → m ≤ bits → IsOnCircle k q →
      factor k m (second_half k gen m q) ≡ k.neg (factor k m q)
  factor-opposite zero q h c = refl
  factor-opposite (suc m) q h c =
      let p = plus k q (gen (suc m)) in
      let r = times k (2 ^ m) q in
      let e : m + 1 ≡ suc m = omega arith in
      let turn : times k (2 ^ m) (gen (suc m)) ≡ at (k.neg k.one) k.zero =
      ap (λ n. times k (2 ^ m) (gen n)) (sym e) ∙ times-generator m 1 (omega arith)
      ∙ gens.half_turn in
      iterated_x-times laws m p (second_half-on_circle (suc m) q h c)
      ∙ ap (λ (r : Coordinates F). r.x) (times-plus laws (2 ^ m) q (gen (suc m))
      ∙ ap (plus k r) turn)
      ∙ ring laws (r.x ∷ r.y ∷ []) (sum (prod (var 0) (minus unit)) (minus (prod (var 1) (con 0))))
      (minus (var 0)) refl
      ∙ ap k.neg (sym (iterated_x-times laws m q c))

module _ {F : Type 0} (k : FieldOps F) (gen : ℕ → Coordinates F) where
  length-points : (m : ℕ) (q : Coordinates F) → length (points k gen m q) ≡ 2 ^ m
  length-points zero q = refl
  length-points (suc m) q =
      length-append (points k gen m q) (points k gen m (second_half k gen m q))
      ∙ omega (arith, length-points m q, length-points m (second_half k gen m q), pow-suc 2 m)

  points-prefix : (m more : ℕ) (q : Coordinates F) → take (2 ^ m) (points k gen (m + more) q)
      ≡ points k gen m q
  points-prefix m zero q =
      let e : m + 0 ≡ m = omega arith in
      ap (λ n. take (2 ^ m) (points k gen n q)) e
      ∙ take_all (2 ^ m) (points k gen m q) (omega (arith, length-points m q))
  points-prefix m (suc more) q =
      let e : m + suc more ≡ suc (m + more) = omega arith in
      let le : 2 ^ m ≤ 2 ^ (m + more) = let b : m ≤ m + more = omega arith in pow_within
      m (m + more) b in
      ap (λ n. take (2 ^ m) (points k gen n q)) e
      ∙ take-append-le (2 ^ m) (points k gen (m + more) q)
      (points k gen (m + more) (second_half k gen (m + more) q))
      (omega (arith, le, length-points (m + more) q))
      ∙ points-prefix m more q

  -- the first points in the transform's order are those of a smaller domain
  pub cfft_order-prefix : (m n : ℕ) (q : Coordinates F) → 1 ≤ m → m ≤ n →
      take (2 ^ m) (cfft_order k gen n q) ≡ cfft_order k gen m q
  cfft_order-prefix m n q h le =
      let e : m + (n - m) ≡ n = omega (arith, le) in
      ap (take (2 ^ m)) (sym (points-cfft_order k gen n q (omega (arith, h, le)))
      ∙ ap (λ i. points k gen i q) (sym e))
      ∙ points-prefix m (n - m) q ∙ points-cfft_order k gen m q h
