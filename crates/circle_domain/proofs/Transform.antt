-- The layers of the transform, one block at a time: what they make of a block's coefficients are
-- its values.
use Rattle.std.specs.Prelude.{◌≡◌, ℕ, ◌+◌, ◌^◌, ◌≤◌, List, [], ◌∷◌, ◌++◌, length, map, take, drop}
use Rattle.std.specs.List.{AllByRecursion}
use Rattle.std.proofs.Common.{zero, suc, sym, ◌∙◌, ap, refl, arith, length-append, length-drop}
use Rattle.std.proofs.Math.Nat.{pow-suc}
use Rattle.std.proofs.lemmas.List.{map-append, take-append-drop, take_all, length-take-le}
use Rattle.circle_field.specs.Field.{FieldOps, RingLaws, sub}
use Rattle.circle_field.specs.RingFacts.{mul_one, add_zero}
use Rattle.circle_field.specs.Circle.{Coordinates, IsOnCircle, AreGenerators}
use Rattle.circle_point.specs.Basis.{value}
use Rattle.circle_commit.specs.DotProduct.{pairwise}
use Rattle.circle_domain.specs.Layers.{factor, second_half}
use Rattle.circle_commit.proofs.Written.{length-pairwise}
use Rattle.circle_domain.proofs.HalfSums.{value-halves, value-low, high-low}
use Rattle.circle_domain.proofs.Blocks.{points, factor-points, factor-opposite}
use Rattle.circle_domain.proofs.Blocks.{second_half-on_circle}

-- functions that agree on each element of a list
pub map-same : {X Y : Type 0} (f h : X → Y) (P : X → Type 0) (xs : List X) → AllByRecursion P xs →
    ((x : X) → P x → f x ≡ h x) → map f xs ≡ map h xs
map-same f h P [] all e = refl
map-same f h P (x ∷ xs) all e = ap (λ y. y ∷ map f xs) (e x all.0)
    ∙ ap (λ ys. h x ∷ ys) (map-same f h P xs all.1 e)

-- the first half of a list of even length
pub first-long : {X : Type 0} (h n : ℕ) (xs : List X) → length xs ≡ n → n ≡ h + h →
    length (take h xs) ≡ h
first-long h n xs e d = length-take-le h xs (omega (arith, e, d))

module _ {F : Type 0} (k : FieldOps F) where
  -- the halves of a block, made anew on the way from coefficients to values
  abbrev pub lower : F → List F → List F → List F
  lower t = pairwise (λ a b. k.add a (k.mul b t))

  abbrev pub upper : F → List F → List F → List F
  upper t = pairwise (λ a b. sub k a (k.mul b t))

  -- the two halves of 2^(m+1) entries, and what a layer with factor t makes of them
  pub record Halves (m : ℕ) (t : F) (xs : List F) : Type 0 where
    pub low : length (take (2 ^ m) xs) ≡ 2 ^ m
    pub high : length (take (2 ^ m) (drop (2 ^ m) xs)) ≡ 2 ^ m
    pub joined : take (2 ^ m) xs ++ take (2 ^ m) (drop (2 ^ m) xs) ≡ xs
    pub lower : length (lower t (take (2 ^ m) xs) (take (2 ^ m) (drop (2 ^ m) xs))) ≡ 2 ^ m
    pub upper : length (upper t (take (2 ^ m) xs) (take (2 ^ m) (drop (2 ^ m) xs))) ≡ 2 ^ m

  pub halves_of : (m : ℕ) (t : F) (xs : List F) → length xs ≡ 2 ^ suc m → Halves m t xs
  halves_of m t xs e =
      let h = 2 ^ m in
      let lo = take h xs in
      let hi = take h (drop h xs) in
      let d : length xs ≡ h + h = omega (arith, e, pow-suc 2 m) in
      let a : length lo ≡ h = first-long h (length xs) xs refl d in
      let b : length hi ≡ h = length-take-le h (drop h xs) (omega (arith, d, length-drop h xs)) in
      record {
        low = a;
        high = b;
        joined = ap (λ ys. lo ++ ys) (take_all h (drop h xs) (omega (arith, d, length-drop h xs)))
            ∙ take-append-drop h xs;
        lower = length-pairwise (λ a b. k.add a (k.mul b t)) lo hi (a ∙ sym b) ∙ a;
        upper = length-pairwise (λ a b. sub k a (k.mul b t)) lo hi (a ∙ sym b) ∙ a;
      }

module _ {F : Type 0} (k : FieldOps F) (gen : ℕ → Coordinates F) where
  -- the layers of a block of 2^m entries whose points are from q on
  abbrev pub finish : ℕ → Coordinates F → List F → List F
  finish zero q xs = xs
  finish (suc m) q xs =
      finish m q (lower k (factor k m q) (take (2 ^ m) xs) (take (2 ^ m) (drop (2 ^ m) xs)))
      ++ finish m (second_half k gen m q) (upper k (factor k m q) (take (2 ^ m) xs)
      (take (2 ^ m) (drop (2 ^ m) xs)))

  pub length-finish : (m : ℕ) (q : Coordinates F) (xs : List F) → length xs ≡ 2 ^ m →
      length (finish m q xs) ≡ 2 ^ m
  length-finish zero q xs e = e
  length-finish (suc m) q xs e =
      let h = halves_of k m (factor k m q) xs e in
      let lo = lower k (factor k m q) (take (2 ^ m) xs) (take (2 ^ m) (drop (2 ^ m) xs)) in
      let hi = upper k (factor k m q) (take (2 ^ m) xs) (take (2 ^ m) (drop (2 ^ m) xs)) in
      length-append (finish m q lo) (finish m (second_half k gen m q) hi)
      ∙ omega (
        arith,
        length-finish m q lo h.lower,
        length-finish m (second_half k gen m q) hi h.upper,
        pow-suc 2 m,
      )

  -- a block's coefficients by their halves: on each half of the points, what the layer makes has
  -- their values
  pub record SplitValues (m : ℕ) (q : Coordinates F) (c : List F) : Type 0 where
    pub whole : (p : Coordinates F) → k.add (value k (take (2 ^ m) c) p)
        (k.mul (value k (take (2 ^ m) (drop (2 ^ m) c)) p) (factor k m p)) ≡ value k c p
    pub on_first : AllByRecursion (λ p. factor k m p ≡ factor k m q) (points k gen m q)
    pub on_second : AllByRecursion (λ p. factor k m p ≡ k.neg (factor k m q))
        (points k gen m (second_half k gen m q))
    pub first : map (value k (lower k (factor k m q) (take (2 ^ m) c)
        (take (2 ^ m) (drop (2 ^ m) c)))) (points k gen m q) ≡ map (value k c) (points k gen m q)
    pub second : map (value k (upper k (factor k m q) (take (2 ^ m) c)
        (take (2 ^ m) (drop (2 ^ m) c)))) (points k gen m (second_half k gen m q))
        ≡ map (value k c) (points k gen m (second_half k gen m q))

module _ {F : Type 0} {k : FieldOps F} (laws : RingLaws k) {gen : ℕ → Coordinates F} {bits : ℕ}
    (gens : AreGenerators k bits gen) where
  pub split_values : (m : ℕ) (q : Coordinates F) (c : List F) → length c ≡ 2 ^ suc m → m ≤ bits →
      IsOnCircle k q → SplitValues k gen m q c
  split_values m q c e h on_circle =
      let t = factor k m q in
      let q' = second_half k gen m q in
      let lo = take (2 ^ m) c in
      let hi = take (2 ^ m) (drop (2 ^ m) c) in
      let halves = halves_of k m t c e in
      let same : length lo ≡ length hi = halves.low ∙ sym halves.high in
      let whole : (p : Coordinates F) → k.add (value k lo p) (k.mul (value k hi p) (factor k m p))
      ≡ value k c p =
      λ p. sym (value-halves laws m lo hi p halves.low (omega (arith, halves.high)))
      ∙ ap (λ xs. value k xs p) halves.joined in
      let on_first : AllByRecursion (λ p. factor k m p ≡ t) (points k gen m q) =
      factor-points laws gens m m q t (omega arith) (omega arith) on_circle refl in
      let on_second : AllByRecursion (λ p. factor k m p ≡ k.neg t) (points k gen m q') =
      factor-points laws gens m m q' (k.neg t) (omega arith) (omega arith)
      (second_half-on_circle laws gens m q h on_circle)
      (factor-opposite laws gens m q h on_circle) in
      record {
        whole = whole;
        on_first = on_first;
        on_second = on_second;
        first = map-same (value k (lower k t lo hi)) (value k c) (λ p. factor k m p ≡ t)
            (points k gen m q) on_first
            (λ p is_t. value-low laws t lo hi p same ∙ ap
            (λ r. k.add (value k lo p) (k.mul (value k hi p) r)) (sym is_t) ∙ whole p);
        second = map-same (value k (upper k t lo hi)) (value k c) (λ p. factor k m p ≡ k.neg t)
            (points k gen m q') on_second
            (λ p is_t. ap (λ xs. value k xs p) (high-low laws t lo hi)
            ∙ value-low laws (k.neg t) lo hi p same
            ∙ ap (λ r. k.add (value k lo p) (k.mul (value k hi p) r)) (sym is_t) ∙ whole p);
      }

  -- of one coefficient
  value-one : (x : F) (p : Coordinates F) → value k (x ∷ []) p ≡ x
  value-one x p = add_zero laws (k.mul x (k.mul k.one k.one)) ∙ ap (k.mul x) (laws.one_mul k.one)
      ∙ mul_one laws x

  -- the layers of a block's coefficients are the values at its points
  pub finish-value : (m : ℕ) (q : Coordinates F) (c : List F) → length c ≡ 2 ^ m → m ≤ suc bits →
      IsOnCircle k q → finish k gen m q c ≡ map (value k c) (points k gen m q)
  finish-value zero q [] e h on_circle = absurd (omega (arith, e))
  finish-value zero q (x ∷ []) e h on_circle = ap (λ v. v ∷ []) (sym (value-one x q))
  finish-value zero q (x ∷ y ∷ c) e h on_circle = absurd (omega (arith, e))
  finish-value (suc m) q c e h on_circle =
      let q' = second_half k gen m q in
      let lo = lower k (factor k m q) (take (2 ^ m) c) (take (2 ^ m) (drop (2 ^ m) c)) in
      let hi = upper k (factor k m q) (take (2 ^ m) c) (take (2 ^ m) (drop (2 ^ m) c)) in
      let halves = halves_of k m (factor k m q) c e in
      let split = split_values m q c e (omega arith) on_circle in
      ap (λ xs. xs ++ finish k gen m q' hi) (finish-value m q lo halves.lower (omega arith)
      on_circle ∙ split.first)
      ∙ ap (λ xs. map (value k c) (points k gen m q) ++ xs)
      (finish-value m q' hi halves.upper (omega arith)
      (second_half-on_circle laws gens m q (omega arith) on_circle) ∙ split.second)
      ∙ sym (map-append (value k c) (points k gen m q) (points k gen m q'))
