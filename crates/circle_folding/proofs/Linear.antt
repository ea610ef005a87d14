-- Values of sums, differences and multiples of coefficients.
use Rattle.std.specs.Prelude.{◌≡◌, ℕ, List, [], ◌∷◌, ◌++◌, length, map}
use Rattle.std.specs.List.{AllByRecursion}
use Rattle.std.proofs.Common.{suc, sym, ◌∙◌, ap, refl, arith}
use Rattle.circle_field.specs.Field.{FieldOps, RingLaws, sub, two}
use Rattle.circle_field.specs.Ring.{var, con, unit, plus as sum, times as prod, minus}
use Rattle.circle_field.specs.RingSound.{ring}
use Rattle.circle_field.specs.RingCombine.{given, combine}
use Rattle.circle_point.specs.Basis.{x_basis, weighted_sum, x_value}
use Rattle.circle_commit.specs.DotProduct.{pairwise}

module _ {F : Type 0} {k : FieldOps F} (laws : RingLaws k) where
  weighted-sums : (f : ℕ → F) (j : ℕ) (xs ys : List F) → length xs ≡ length ys →
      weighted_sum k f j (pairwise k.add xs ys)
      ≡ k.add (weighted_sum k f j xs) (weighted_sum k f j ys)
  weighted-sums f j [] [] e = sym (laws.zero_add k.zero)
  weighted-sums f j [] (y ∷ ys) e = absurd (omega (arith, e))
  weighted-sums f j (x ∷ xs) [] e = absurd (omega (arith, e))
  weighted-sums f j (x ∷ xs) (y ∷ ys) e =
      let a = weighted_sum k f (suc j) xs in
      let b = weighted_sum k f (suc j) ys in
      ap (k.add (k.mul (k.add x y) (f j))) (weighted-sums f (suc j) xs ys (omega (arith, e)))
      ∙ ring laws (x ∷ y ∷ f j ∷ a ∷ b ∷ [])
      (sum (prod (sum (var 0) (var 1)) (var 2)) (sum (var 3) (var 4)))
      (sum (sum (prod (var 0) (var 2)) (var 3)) (sum (prod (var 1) (var 2)) (var 4))) refl

  weighted-differences : (f : ℕ → F) (i : F) (j : ℕ) (xs ys : List F) → length xs ≡ length ys →
      weighted_sum k f j (pairwise (λ x y. k.mul i (sub k x y)) xs ys)
      ≡ k.mul i (sub k (weighted_sum k f j xs) (weighted_sum k f j ys))
  weighted-differences f i j [] [] e =
      ring laws (i ∷ []) (con 0) (prod (var 0) (sum (con 0) (minus (con 0)))) refl
  weighted-differences f i j [] (y ∷ ys) e = absurd (omega (arith, e))
  weighted-differences f i j (x ∷ xs) [] e = absurd (omega (arith, e))
  weighted-differences f i j (x ∷ xs) (y ∷ ys) e =
      let a = weighted_sum k f (suc j) xs in
      let b = weighted_sum k f (suc j) ys in
      ap (k.add (k.mul (k.mul i (sub k x y)) (f j)))
      (weighted-differences f i (suc j) xs ys (omega (arith, e)))
      ∙ ring laws (x ∷ y ∷ f j ∷ a ∷ b ∷ i ∷ [])
      (sum (prod (prod (var 5) (sum (var 0) (minus (var 1)))) (var 2))
      (prod (var 5) (sum (var 3) (minus (var 4)))))
      (prod (var 5)
      (sum (sum (prod (var 0) (var 2)) (var 3)) (minus (sum (prod (var 1) (var 2)) (var 4)))))
      refl

  weighted-multiples : (f : ℕ → F) (s : F) (j : ℕ) (xs : List F) →
      weighted_sum k f j (map (k.mul s) xs) ≡ k.mul s (weighted_sum k f j xs)
  weighted-multiples f s j [] = ring laws (s ∷ []) (con 0) (prod (var 0) (con 0)) refl
  weighted-multiples f s j (x ∷ xs) =
      let a = weighted_sum k f (suc j) xs in
      ap (k.add (k.mul (k.mul s x) (f j))) (weighted-multiples f s (suc j) xs)
      ∙ ring laws (s ∷ x ∷ f j ∷ a ∷ [])
      (sum (prod (prod (var 0) (var 1)) (var 2)) (prod (var 0) (var 3)))
      (prod (var 0) (sum (prod (var 1) (var 2)) (var 3))) refl

  weighted-zeros : (f : ℕ → F) (j : ℕ) (zs : List F) → AllByRecursion (λ z. z ≡ k.zero) zs →
      weighted_sum k f j zs ≡ k.zero
  weighted-zeros f j [] h = refl
  weighted-zeros f j (z ∷ zs) h =
      ap (λ v. k.add (k.mul v (f j)) (weighted_sum k f (suc j) zs)) h.0
      ∙ ap (k.add (k.mul k.zero (f j))) (weighted-zeros f (suc j) zs h.1)
      ∙ ring laws (f j ∷ []) (sum (prod (con 0) (var 0)) (con 0)) (con 0) refl

  weighted-more : (f : ℕ → F) (j : ℕ) (xs zs : List F) → AllByRecursion (λ z. z ≡ k.zero) zs →
      weighted_sum k f j (xs ++ zs) ≡ weighted_sum k f j xs
  weighted-more f j [] zs h = weighted-zeros f j zs h
  weighted-more f j (x ∷ xs) zs h = ap (k.add (k.mul x (f j))) (weighted-more f (suc j) xs zs h)

  pub x_value-sum : (xs ys : List F) (x : F) → length xs ≡ length ys →
      x_value k (pairwise k.add xs ys) x ≡ k.add (x_value k xs x) (x_value k ys x)
  x_value-sum xs ys x e = weighted-sums (λ j. x_basis k j x) 0 xs ys e

  pub x_value-difference : (i : F) (xs ys : List F) (x : F) → length xs ≡ length ys →
      x_value k (pairwise (λ a b. k.mul i (sub k a b)) xs ys) x
      ≡ k.mul i (sub k (x_value k xs x) (x_value k ys x))
  x_value-difference i xs ys x e = weighted-differences (λ j. x_basis k j x) i 0 xs ys e

  pub x_value-multiple : (s : F) (xs : List F) (x : F) → x_value k (map (k.mul s) xs) x
      ≡ k.mul s (x_value k xs x)
  x_value-multiple s xs x = weighted-multiples (λ j. x_basis k j x) s 0 xs

  -- further coefficients that are 0 don't count
  pub x_value-more : (xs zs : List F) (x : F) → AllByRecursion (λ z. z ≡ k.zero) zs →
      x_value k (xs ++ zs) x ≡ x_value k xs x
  x_value-more xs zs x h = weighted-more (λ j. x_basis k j x) 0 xs zs h

  -- sums and differences by the inverse i of a factor t give back twice the values at both halves
  pub first-back : (a b i t : F) → k.mul i t ≡ k.one →
      k.add (k.add a b) (k.mul (k.mul i (sub k a b)) t) ≡ k.add a a
  first-back a b i t h =
      combine laws (a ∷ b ∷ i ∷ t ∷ [])
      (sum (sum (var 0) (var 1)) (prod (prod (var 2) (sum (var 0) (minus (var 1)))) (var 3)))
      (sum (var 0) (var 0))
      (given (sum (var 0) (minus (var 1))) (prod (var 2) (var 3)) unit ∷ []) refl (h, tt)

  pub second-back : (a b i t : F) → k.mul i t ≡ k.one →
      k.add (k.add a b) (k.mul (k.mul i (sub k a b)) (k.neg t)) ≡ k.add b b
  second-back a b i t h =
      combine laws (a ∷ b ∷ i ∷ t ∷ [])
      (sum (sum (var 0) (var 1))
      (prod (prod (var 2) (sum (var 0) (minus (var 1)))) (minus (var 3)))) (sum (var 1) (var 1))
      (given (minus (sum (var 0) (minus (var 1)))) (prod (var 2) (var 3)) unit ∷ []) refl (h, tt)

  -- twice a multiple
  pub twice-multiples : (s : F) (ws : List F) → map (λ v. k.add v v) (map (k.mul s) ws)
      ≡ map (k.mul (k.mul (two k) s)) ws
  twice-multiples s [] = refl
  twice-multiples s (w ∷ ws) =
      ap (λ v. v ∷ map (λ u. k.add u u) (map (k.mul s) ws))
      (ring laws (s ∷ w ∷ []) (sum (prod (var 0) (var 1)) (prod (var 0) (var 1)))
      (prod (prod (sum unit unit) (var 0)) (var 1)) refl)
      ∙ ap (λ rest. k.mul (k.mul (two k) s) w ∷ rest) (twice-multiples s ws)
