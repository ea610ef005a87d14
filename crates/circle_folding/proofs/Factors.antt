-- The factors of the blocks of a coset: one for all points of a block's first half, its opposite in
-- the second, and never 0.
use Rattle.std.specs.Prelude.{◌≡◌, ◌≢◌, ℕ, ◌+◌, ◌-◌, ◌^◌, ◌≤◌, List, [], ◌∷◌, ◌++◌, length, map}
use Rattle.std.specs.Prelude.{take, drop, slice_index_or}
use Rattle.std.specs.List.{AllByRecursion}
use Rattle.std.proofs.Common.{zero, suc, ◌∙◌, ap, refl, arith, subst, length-append}
use Rattle.std.proofs.Math.Nat.{pow-suc}
use Rattle.std.proofs.lemmas.Nat.{pow_pos}
use Rattle.std.proofs.lemmas.List.{map-append, take_at, drop_at, length-map}
use Rattle.circle_field.specs.Field.{FieldOps, FieldLaws}
use Rattle.circle_field.specs.Circle.{Coordinates, IsOnCircle, AreGenerators, plus, origin, times}
use Rattle.circle_point.specs.Basis.{iterated_x}
use Rattle.circle_domain.specs.Order.{coset, with_opposites}
use Rattle.circle_domain.proofs.Blocks.{points, points-cfft_order, factor-points, factor-opposite}
use Rattle.circle_domain.proofs.Blocks.{second_half-on_circle, all-append}
use Rattle.circle_domain.proofs.Inversion.{factor-nonzero, first-genuine, second-genuine}
use Rattle.circle_domain.proofs.Twiddles.{length-coset}
use Rattle.circle_folding.specs.Interpolation.{block_factors}

module _ {F : Type 0} (k : FieldOps F) (gen : ℕ → Coordinates F) where
  -- the factors of a block of 2^m points from q on and of its halves
  abbrev pub point_factors : ℕ → Coordinates F → List F
  point_factors zero q = []
  point_factors (suc m) q = iterated_x k m q.x
      ∷ (point_factors m q ++ point_factors m (plus k q (gen (suc m))))

  pub length-point_factors : (m : ℕ) (q : Coordinates F) → length (point_factors m q) + 1 ≡ 2 ^ m
  length-point_factors zero q = refl
  length-point_factors (suc m) q =
      let q' = plus k q (gen (suc m)) in
      omega (
        arith,
        length-append (point_factors m q) (point_factors m q'),
        length-point_factors m q,
        length-point_factors m q',
        pow-suc 2 m,
      )

  coset-first : (m : ℕ) (q d : Coordinates F) → slice_index_or (coset k gen m q) 0 d ≡ q
  coset-first zero q d = refl
  coset-first (suc m) q d = first-append (coset k gen m q) (coset k gen m (plus k q (gen (suc m))))
      (coset-first m q d) (length-coset k gen m q)
    where
      first-append : (ps qs : List (Coordinates F)) → slice_index_or ps 0 d ≡ q →
          length ps ≡ 2 ^ m → slice_index_or (ps ++ qs) 0 d ≡ q
      first-append [] qs e long = absurd (omega (arith, long, pow_pos m))
      first-append (p ∷ ps) qs e long = e

  first-x : (ps : List (Coordinates F)) (q : Coordinates F) (z : F) {n : ℕ} → slice_index_or ps 0 q
      ≡ q → length ps ≡ n → 1 ≤ n → slice_index_or (map (λ p. p.x) ps) 0 z ≡ q.x
  first-x [] q z e long some = absurd (omega (arith, long, some))
  first-x (p ∷ ps) q z e long some = ap (λ (r : Coordinates F). r.x) e

  -- they are told by the x coordinates
  pub block_factors-coset : (m : ℕ) (q : Coordinates F) →
      block_factors k m (map (λ p. p.x) (coset k gen m q)) ≡ point_factors m q
  block_factors-coset zero q = refl
  block_factors-coset (suc m) q =
      let x = λ (p : Coordinates F). p.x in
      let q' = plus k q (gen (suc m)) in
      let a = map x (coset k gen m q) in
      let b = map x (coset k gen m q') in
      let both : map x (coset k gen (suc m) q) ≡ a ++ b =
      map-append x (coset k gen m q) (coset k gen m q') in
      let long : length a ≡ 2 ^ m = length-map (coset k gen m q) x ∙ length-coset k gen m q in
      let head : slice_index_or (map x (coset k gen (suc m) q)) 0 k.zero ≡ q.x =
      first-x (coset k gen (suc m) q) q k.zero (coset-first (suc m) q q)
      (length-coset k gen (suc m) q) (pow_pos (suc m)) in
      ap
      (λ v. iterated_x k m v
      ∷ (block_factors k m (take (2 ^ m) (map x (coset k gen (suc m) q)))
      ++ block_factors k m (drop (2 ^ m) (map x (coset k gen (suc m) q))))) head
      ∙ ap
      (λ xs. iterated_x k m q.x
      ∷ (block_factors k m (take (2 ^ m) xs) ++ block_factors k m (drop (2 ^ m) xs))) both
      ∙ ap
      (λ xs. iterated_x k m q.x
      ∷ (block_factors k m xs ++ block_factors k m (drop (2 ^ m) (a ++ b))))
      (take_at a b (2 ^ m) long)
      ∙ ap (λ xs. iterated_x k m q.x ∷ (block_factors k m a ++ block_factors k m xs))
      (drop_at a b (2 ^ m) long)
      ∙ ap (λ xs. iterated_x k m q.x ∷ (xs ++ block_factors k m b)) (block_factors-coset m q)
      ∙ ap (λ xs. iterated_x k m q.x ∷ (point_factors m q ++ xs)) (block_factors-coset m q')

  -- a block's points with their opposites
  pub points-opposites : (m : ℕ) (q : Coordinates F) → points k gen (suc m) q
      ≡ with_opposites k (coset k gen m q)
  points-opposites m q =
      let e : suc m - 1 ≡ m = omega arith in
      points-cfft_order k gen (suc m) q (omega arith)
      ∙ ap (λ n. with_opposites k (coset k gen n q)) e

  from-opposites : (P : Coordinates F → Type 0) (ps : List (Coordinates F)) →
      AllByRecursion P (with_opposites k ps) → AllByRecursion P ps
  from-opposites P [] h = tt
  from-opposites P (p ∷ ps) h = (h.0, from-opposites P ps h.1.1)

module _ {F : Type 0} {k : FieldOps F} (laws : FieldLaws k) {gen : ℕ → Coordinates F} {bits : ℕ}
    (gens : AreGenerators k bits gen) where
  -- one factor for all points
  pub factor-coset : (m : ℕ) (q : Coordinates F) (t : F) → m ≤ bits → IsOnCircle k q →
      iterated_x k m q.x ≡ t → AllByRecursion (λ p. iterated_x k m p.x ≡ t) (coset k gen m q)
  factor-coset m q t fits c e =
      from-opposites k gen (λ p. iterated_x k m p.x ≡ t) (coset k gen m q)
      (subst (AllByRecursion (λ p. iterated_x k m p.x ≡ t)) (points-opposites k gen m q)
      (factor-points laws.ring gens (suc m) (suc m) q t (omega arith) (omega arith) c e))

  -- and its opposite in the second half
  pub factor-second : (m : ℕ) (q : Coordinates F) → suc m ≤ bits → IsOnCircle k q →
      iterated_x k m (plus k q (gen (suc m))).x ≡ k.neg (iterated_x k m q.x)
  factor-second m q fits c = factor-opposite laws.ring gens (suc m) q fits c

  -- no factor is 0
  pub point_factors-nonzero : (m : ℕ) (q : Coordinates F) → m ≤ bits → IsOnCircle k q →
      times k (2 ^ suc m) q ≢ origin k → AllByRecursion (λ t. t ≢ k.zero) (point_factors k gen m q)
  point_factors-nonzero zero q fits c h = tt
  point_factors-nonzero (suc m) q fits c h =
      let q' = plus k q (gen (suc m)) in (
        factor-nonzero laws (suc m) q c h,
        all-append (λ t. t ≢ k.zero) (point_factors k gen m q) (point_factors k gen m q')
            (point_factors-nonzero m q (omega arith) c (first-genuine laws (suc m) q h))
            (point_factors-nonzero m q' (omega arith)
            (second_half-on_circle laws.ring gens (suc m) q fits c)
            (second-genuine laws gens (suc m) q fits c h)),
      )
