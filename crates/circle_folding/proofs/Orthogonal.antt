-- The values of a vanishing polynomial on a standard domain: they are orthogonal to those of
-- polynomials with fewer coefficients, and their squares add up to half the number of points.
use Rattle.std.specs.Prelude.{◌≡◌, ℕ, ◌+◌, ◌^◌, ◌<◌, ◌≤◌, List, [], ◌∷◌, ◌++◌, length, map, take}
use Rattle.std.specs.Prelude.{drop, replicate, slice_index_or}
use Rattle.std.proofs.Common.{zero, suc, refl, sym, ◌∙◌, ap, arith, append-nil}
use Rattle.std.proofs.Math.Nat.{pow-suc}
use Rattle.std.proofs.lemmas.Nat.{pow_pos}
use Rattle.std.proofs.lemmas.List.{map-append, length-map, length-replicate, get_or-take}
use Rattle.std.proofs.lemmas.List.{replicate-append-replicate}
use Rattle.circle_field.specs.Field.{FieldOps, RingLaws, sub, two, nth_power}
use Rattle.circle_field.specs.Ring.{var, con, unit, plus as sum, times as prod, minus}
use Rattle.circle_field.specs.RingSound.{ring}
use Rattle.circle_field.specs.Circle.{Coordinates, IsOnCircle, AreGenerators}
use Rattle.circle_field.proofs.Powers.{nth_power-+}
use Rattle.circle_point.specs.Basis.{value}
use Rattle.circle_point.proofs.Multiples.{iterated_x-suc}
use Rattle.circle_commit.specs.DotProduct.{dot}
use Rattle.circle_domain.specs.Layers.{factor, second_half, block_starts}
use Rattle.circle_domain.proofs.Blocks.{points, second_half-on_circle, factor-opposite}
use Rattle.circle_commit.proofs.ColumnSums.{dot-append}
use Rattle.circle_domain.proofs.Transform.{lower, upper, finish, finish-value, halves_of}
use Rattle.circle_commit.proofs.Written.{pairwise-read}
use Rattle.circle_folding.specs.Blocks.{spread, sum_of}
use Rattle.circle_folding.proofs.BlockSums.{dot-replicate}
use Rattle.circle_folding.proofs.Vanished.{factors-spread, length-points}

module _ {F : Type 0} {k : FieldOps F} (laws : RingLaws k) where
  sum-joined : (xs ys : List F) → sum_of k (xs ++ ys) ≡ k.add (sum_of k xs) (sum_of k ys)
  sum-joined [] ys = sym (laws.zero_add (sum_of k ys))
  sum-joined (x ∷ xs) ys = ap (k.add x) (sum-joined xs ys)
      ∙ sym (laws.add_assoc x (sum_of k xs) (sum_of k ys))

  -- the values that the layers of a block make of coefficients add up to 2^m times the first one
  sum-finish : (gen : ℕ → Coordinates F) (m : ℕ) (q : Coordinates F) (c : List F) →
      length c ≡ 2 ^ m →
      sum_of k (finish k gen m q c) ≡ k.mul (nth_power k (two k) m) (slice_index_or c 0 k.zero)
  sum-finish gen zero q [] e = absurd (omega (arith, e))
  sum-finish gen zero q (x ∷ []) e =
      ring laws (x ∷ []) (sum (var 0) (con 0)) (prod unit (var 0)) refl
  sum-finish gen zero q (x ∷ y ∷ c) e = absurd (omega (arith, e))
  sum-finish gen (suc m) q c e =
      let t = factor k m q in
      let q' = second_half k gen m q in
      let a = take (2 ^ m) c in
      let b = take (2 ^ m) (drop (2 ^ m) c) in
      let lo = lower k t a b in
      let hi = upper k t a b in
      let h = halves_of k m t c e in
      let p = nth_power k (two k) m in
      let some : 0 < 2 ^ m = pow_pos m in
      let u = slice_index_or a 0 k.zero in
      let v = slice_index_or b 0 k.zero in
      let head : u ≡ slice_index_or c 0 k.zero = get_or-take (2 ^ m) c 0 k.zero some in
      let in_a : 0 < length a = omega (arith, h.low, some) in
      let in_b : 0 < length b = omega (arith, h.high, some) in
      let of_lo : slice_index_or lo 0 k.zero ≡ k.add u (k.mul v t) =
      pairwise-read (λ a b. k.add a (k.mul b t)) a b 0 k.zero k.zero k.zero in_a in_b in
      let of_hi : slice_index_or hi 0 k.zero ≡ sub k u (k.mul v t) =
      pairwise-read (λ a b. sub k a (k.mul b t)) a b 0 k.zero k.zero k.zero in_a in_b in
      sum-joined (finish k gen m q lo) (finish k gen m q' hi)
      ∙ ap (λ s. k.add s (sum_of k (finish k gen m q' hi)))
      (sum-finish gen m q lo h.lower ∙ ap (k.mul p) of_lo)
      ∙ ap (k.add (k.mul p (k.add u (k.mul v t)))) (sum-finish gen m q' hi h.upper
      ∙ ap (k.mul p) of_hi)
      ∙ ring laws (p ∷ u ∷ v ∷ t ∷ [])
      (sum (prod (var 0) (sum (var 1) (prod (var 2) (var 3))))
      (prod (var 0) (sum (var 1) (minus (prod (var 2) (var 3))))))
      (prod (prod (sum unit unit) (var 0)) (var 1)) refl
      ∙ ap (k.mul (nth_power k (two k) (suc m))) head

  -- 2^m equal entries
  sum-replicate : (m : ℕ) (v : F) → sum_of k (replicate (2 ^ m) v) ≡ k.mul (nth_power k (two k) m) v
  sum-replicate zero v = ring laws (v ∷ []) (sum (var 0) (con 0)) (prod unit (var 0)) refl
  sum-replicate (suc m) v =
      let e : 2 ^ suc m ≡ 2 ^ m + 2 ^ m = omega (arith, pow-suc 2 m) in
      let p = nth_power k (two k) m in
      ap (λ n. sum_of k (replicate n v)) e
      ∙ ap (sum_of k) (sym (replicate-append-replicate (2 ^ m) (2 ^ m) v))
      ∙ sum-joined (replicate (2 ^ m) v) (replicate (2 ^ m) v)
      ∙ ap (λ s. k.add s s) (sum-replicate m v)
      ∙ ring laws (p ∷ v ∷ []) (sum (prod (var 0) (var 1)) (prod (var 0) (var 1)))
      (prod (prod (sum unit unit) (var 0)) (var 1)) refl

  -- the squares of entries that stand 2^m times each
  squares-spread : (m : ℕ) (vs : List F) → dot k (spread (2 ^ m) vs) (spread (2 ^ m) vs)
      ≡ k.mul (nth_power k (two k) m) (dot k vs vs)
  squares-spread m [] = ring laws (nth_power k (two k) m ∷ []) (con 0) (prod (var 0) (con 0)) refl
  squares-spread m (v ∷ vs) =
      let p = nth_power k (two k) m in
      let block = replicate (2 ^ m) v in
      let rest = spread (2 ^ m) vs in
      dot-append laws block rest block rest refl
      ∙ ap (λ s. k.add s (dot k rest rest))
      (dot-replicate laws block (2 ^ m) v (length-replicate (2 ^ m) v)
      ∙ ap (λ s. k.mul s v) (sum-replicate m v))
      ∙ ap (k.add (k.mul (k.mul p v) v)) (squares-spread m vs)
      ∙ ring laws (p ∷ v ∷ dot k vs vs ∷ [])
      (sum (prod (prod (var 0) (var 1)) (var 1)) (prod (var 0) (var 2)))
      (prod (var 0) (sum (prod (var 1) (var 1)) (var 2))) refl

module _ {F : Type 0} {k : FieldOps F} (laws : RingLaws k) {gen : ℕ → Coordinates F} {bits : ℕ}
    (gens : AreGenerators k bits gen) where
  -- the factor of the blocks of 2^n points, at the first point of each block
  abbrev start_factors : ℕ → ℕ → Coordinates F → List F
  start_factors a n q = map (factor k n) (block_starts k gen a n q)

  -- those of both halves
  start_factors-halves : (a n : ℕ) (q : Coordinates F) → start_factors (suc a) n q
      ≡ start_factors a n q ++ start_factors a n (second_half k gen (a + n) q)
  start_factors-halves a n q =
      map-append (factor k n) (block_starts k gen a n q)
      (block_starts k gen a n (second_half k gen (a + n) q))

  -- the values of a polynomial with 2^n coefficients, times the factor of their blocks
  block-products : (a n : ℕ) (q : Coordinates F) (c : List F) → length c ≡ 2 ^ n →
      a + n ≤ suc bits → IsOnCircle k q →
      dot k (map (value k c) (points k gen (a + n) q)) (map (factor k n) (points k gen (a + n) q))
      ≡ k.mul (k.mul (nth_power k (two k) n) (slice_index_or c 0 k.zero))
      (sum_of k (start_factors a n q))
  block-products zero n q c long fits on_circle =
      let e : 0 + n ≡ n = omega arith in
      let t = factor k n q in
      let values = map (value k c) (points k gen n q) in
      let s = k.mul (nth_power k (two k) n) (slice_index_or c 0 k.zero) in
      ap (λ fs. dot k (map (value k c) (points k gen (0 + n) q)) fs)
      (factors-spread laws gens 0 n q fits on_circle ∙ append-nil (replicate (2 ^ n) t))
      ∙ ap (λ m. dot k (map (value k c) (points k gen m q)) (replicate (2 ^ n) t)) e
      ∙ dot-replicate laws values (2 ^ n) t (length-map (points k gen n q) (value k c)
      ∙ length-points laws gens n q)
      ∙ ap (λ v. k.mul v t)
      (ap (sum_of k) (sym (finish-value laws gens n q c long (omega (arith, fits)) on_circle))
      ∙ sum-finish laws gen n q c long)
      ∙ ring laws (s ∷ t ∷ []) (prod (var 0) (var 1)) (prod (var 0) (sum (var 1) (con 0))) refl
  block-products (suc a) n q c long fits on_circle =
      let e : suc a + n ≡ suc (a + n) = omega arith in
      let f = factor k n in
      let v = value k c in
      let q' = second_half k gen (a + n) q in
      let first = points k gen (a + n) q in
      let second = points k gen (a + n) q' in
      let s = k.mul (nth_power k (two k) n) (slice_index_or c 0 k.zero) in
      let x = sum_of k (start_factors a n q) in
      let y = sum_of k (start_factors a n q') in
      let there = second_half-on_circle laws gens (a + n) q (omega (arith, fits)) on_circle in
      ap (λ m. dot k (map v (points k gen m q)) (map f (points k gen m q))) e
      ∙ ap (λ ws. dot k ws (map f (first ++ second))) (map-append v first second)
      ∙ ap (dot k (map v first ++ map v second)) (map-append f first second)
      ∙ dot-append laws (map v first) (map v second) (map f first) (map f second)
      (length-map first v ∙ sym (length-map first f))
      ∙ ap (λ w. k.add w (dot k (map v second) (map f second)))
      (block-products a n q c long (omega (arith, fits)) on_circle)
      ∙ ap (k.add (k.mul s x)) (block-products a n q' c long (omega (arith, fits)) there)
      ∙ sym (laws.mul_add s x y)
      ∙ ap (k.mul s) (sym (sum-joined laws (start_factors a n q) (start_factors a n q'))
      ∙ ap (sum_of k) (sym (start_factors-halves a n q)))

  -- the factors of two blocks or more add up to 0
  factors-cancel : (a n : ℕ) (q : Coordinates F) → a + n ≤ bits → IsOnCircle k q →
      sum_of k (start_factors (suc a) n q) ≡ k.zero
  factors-cancel zero n q fits on_circle =
      let e : 0 + n ≡ n = omega arith in
      let t = factor k n q in
      ap (λ m. k.add t (k.add (factor k n (second_half k gen m q)) k.zero)) e
      ∙ ap (λ v. k.add t (k.add v k.zero))
      (factor-opposite laws gens n q (omega (arith, fits)) on_circle)
      ∙ ring laws (t ∷ []) (sum (var 0) (sum (minus (var 0)) (con 0))) (con 0) refl
  factors-cancel (suc a) n q fits on_circle =
      let q' = second_half k gen (suc a + n) q in
      let there = second_half-on_circle laws gens (suc a + n) q (omega (arith, fits)) on_circle in
      ap (sum_of k) (start_factors-halves (suc a) n q)
      ∙ sum-joined laws (start_factors (suc a) n q) (start_factors (suc a) n q')
      ∙ ap (λ s. k.add s (sum_of k (start_factors (suc a) n q')))
      (factors-cancel a n q (omega (arith, fits)) on_circle)
      ∙ ap (k.add k.zero) (factors-cancel a n q' (omega (arith, fits)) there) ∙ laws.zero_add k.zero

  -- a polynomial with 2^n coefficients is orthogonal to the factor on two blocks or more
  pub factor-orthogonal : (a n : ℕ) (q : Coordinates F) (c : List F) → length c ≡ 2 ^ n →
      a + n ≤ bits → IsOnCircle k q →
      dot k (map (value k c) (points k gen (suc a + n) q))
      (map (factor k n) (points k gen (suc a + n) q)) ≡ k.zero
  factor-orthogonal a n q c long fits on_circle =
      let s = k.mul (nth_power k (two k) n) (slice_index_or c 0 k.zero) in
      block-products (suc a) n q c long (omega (arith, fits)) on_circle
      ∙ ap (k.mul s) (factors-cancel a n q fits on_circle)
      ∙ ring laws (s ∷ []) (prod (var 0) (con 0)) (con 0) refl

  -- the squares of the factors of two blocks
  two-squares : (j : ℕ) (q : Coordinates F) → suc j ≤ bits → IsOnCircle k q →
      dot k (start_factors 1 (suc j) q) (start_factors 1 (suc j) q)
      ≡ k.add k.one (factor k (suc (suc j)) q)
  two-squares j q fits on_circle =
      let e : 0 + suc j ≡ suc j = omega arith in
      let n = suc j in
      let t = factor k n q in
      let square = λ (v : F). k.add (k.mul t t) (k.add (k.mul v v) k.zero) in
      ap (λ m. square (factor k n (second_half k gen m q))) e
      ∙ ap square (factor-opposite laws gens n q fits on_circle)
      ∙ ring laws (t ∷ [])
      (sum (prod (var 0) (var 0)) (sum (prod (minus (var 0)) (minus (var 0))) (con 0)))
      (sum unit (sum (sum (prod (var 0) (var 0)) (prod (var 0) (var 0))) (minus unit))) refl
      ∙ ap (k.add k.one) (sym (iterated_x-suc k j q.x))

  -- and of four blocks or more
  more-squares : (a j : ℕ) (q : Coordinates F) → suc a + suc j ≤ bits → IsOnCircle k q →
      dot k (start_factors (suc (suc a)) (suc j) q) (start_factors (suc (suc a)) (suc j) q)
      ≡ nth_power k (two k) (suc a)
  more-squares zero j q fits on_circle =
      let n = suc j in
      let e : 1 + n ≡ suc n = omega arith in
      let q' = second_half k gen (1 + n) q in
      let t = factor k (suc n) q in
      let there = second_half-on_circle laws gens (1 + n) q (omega (arith, fits)) on_circle in
      let turned : factor k (suc n) q' ≡ k.neg t =
      ap (λ m. factor k (suc n) (second_half k gen m q)) e
      ∙ factor-opposite laws gens (suc n) q (omega (arith, fits)) on_circle in
      let xs = start_factors 1 n q in
      let ys = start_factors 1 n q' in
      ap (λ zs. dot k zs zs) (start_factors-halves 1 n q)
      ∙ dot-append laws xs ys xs ys refl
      ∙ ap (λ s. k.add s (dot k ys ys)) (two-squares j q (omega (arith, fits)) on_circle)
      ∙ ap (k.add (k.add k.one t)) (two-squares j q' (omega (arith, fits)) there
      ∙ ap (k.add k.one) turned)
      ∙ ring laws (t ∷ []) (sum (sum unit (var 0)) (sum unit (minus (var 0))))
      (prod (sum unit unit) unit) refl
  more-squares (suc a) j q fits on_circle =
      let n = suc j in
      let q' = second_half k gen (suc (suc a) + n) q in
      let there = second_half-on_circle laws gens (suc (suc a) + n) q (omega (arith, fits))
      on_circle in
      let p = nth_power k (two k) (suc a) in
      let xs = start_factors (suc (suc a)) n q in
      let ys = start_factors (suc (suc a)) n q' in
      ap (λ zs. dot k zs zs) (start_factors-halves (suc (suc a)) n q)
      ∙ dot-append laws xs ys xs ys refl
      ∙ ap (λ s. k.add s (dot k ys ys)) (more-squares a j q (omega (arith, fits)) on_circle)
      ∙ ap (k.add p) (more-squares a j q' (omega (arith, fits)) there)
      ∙ ring laws (p ∷ []) (sum (var 0) (var 0)) (prod (sum unit unit) (var 0)) refl

  -- on the standard domain, where twice the factor's point is a quarter turn for two blocks
  start-squares : (a j : ℕ) (q : Coordinates F) → a + suc j ≤ bits → IsOnCircle k q →
      (a ≡ 0 → factor k (suc (suc j)) q ≡ k.zero) →
      dot k (start_factors (suc a) (suc j) q) (start_factors (suc a) (suc j) q)
      ≡ nth_power k (two k) a
  start-squares zero j q fits on_circle flat =
      two-squares j q (omega (arith, fits)) on_circle ∙ ap (k.add k.one) (flat refl)
      ∙ ring laws [] (sum unit (con 0)) unit refl
  start-squares (suc a) j q fits on_circle flat = more-squares a j q fits on_circle

  pub factor-squares : (a j : ℕ) (q : Coordinates F) → a + suc j ≤ bits → IsOnCircle k q →
      (a ≡ 0 → factor k (suc (suc j)) q ≡ k.zero) →
      dot k (map (factor k (suc j)) (points k gen (suc a + suc j) q))
      (map (factor k (suc j)) (points k gen (suc a + suc j) q))
      ≡ nth_power k (two k) (a + suc j)
  factor-squares a j q fits on_circle flat =
      let order : suc j + a ≡ a + suc j = omega arith in
      ap (λ fs. dot k fs fs)
      (factors-spread laws gens (suc a) (suc j) q (omega (arith, fits)) on_circle)
      ∙ squares-spread laws (suc j) (start_factors (suc a) (suc j) q)
      ∙ ap (k.mul (nth_power k (two k) (suc j))) (start-squares a j q fits on_circle flat)
      ∙ sym (nth_power-+ laws (two k) (suc j) a) ∙ ap (nth_power k (two k)) order
