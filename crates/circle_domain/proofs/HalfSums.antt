-- The value of a list of coefficients from the values of its two halves.
use Rattle.std.specs.Prelude.{◌≡◌, ℕ, ◌+◌, ◌^◌, ◌<◌, ◌≤◌, List, [], ◌∷◌, ◌++◌, length}
use Rattle.std.proofs.Common.{zero, suc, sym, ◌∙◌, ap, refl, arith}
use Rattle.circle_field.specs.Field.{FieldOps, RingLaws, sub}
use Rattle.circle_field.specs.RingFacts.{zero_mul, add_swap, add_mul, mul_neg}
use Rattle.circle_field.specs.Circle.{Coordinates}
use Rattle.circle_point.specs.Basis.{circle_basis, weighted_sum, value}
use Rattle.circle_commit.specs.DotProduct.{pairwise}
use Rattle.circle_domain.specs.Layers.{factor}
use Rattle.circle_point.proofs.Bases.{circle_basis-next}

module _ {F : Type 0} {k : FieldOps F} (laws : RingLaws k) where
  -- the basis polynomial of an index with one more bit
  basis-upper : (m j : ℕ) (p : Coordinates F) → j < 2 ^ m → circle_basis k (2 ^ m + j) p
      ≡ k.mul (circle_basis k j p) (factor k m p)
  basis-upper zero zero p h = sym (laws.one_mul (k.mul k.one p.y) ∙ refl)
      ∙ ap (λ v. k.mul v (k.mul k.one p.y)) (sym (laws.one_mul k.one))
      ∙ ap (k.mul (k.mul k.one k.one)) (laws.one_mul p.y)
  basis-upper zero (suc j) p h = absurd (omega arith)
  basis-upper (suc m) j p h = circle_basis-next laws m j p h

  weighted_sum-append : (f : ℕ → F) (j : ℕ) (xs ys : List F) → weighted_sum k f j (xs ++ ys)
      ≡ k.add (weighted_sum k f j xs) (weighted_sum k f (j + length xs) ys)
  weighted_sum-append f j [] ys = let e : j ≡ j + 0 = omega arith in sym (laws.zero_add _)
      ∙ ap (λ n. k.add k.zero (weighted_sum k f n ys)) e
  weighted_sum-append f j (x ∷ xs) ys =
      let e : suc j + length xs ≡ j + suc (length xs) = omega arith in
      ap (k.add (k.mul x (f j))) (weighted_sum-append f (suc j) xs ys)
      ∙ sym (laws.add_assoc _ _ _)
      ∙ ap
      (λ n. k.add (k.add (k.mul x (f j)) (weighted_sum k f (suc j) xs)) (weighted_sum k f n ys))
      e

  weighted_sum-scaled : (f h : ℕ → F) (t : F) (i j : ℕ) (ys : List F) →
      ((n : ℕ) → n < length ys → f (i + n) ≡ k.mul (h (j + n)) t) →
      weighted_sum k f i ys ≡ k.mul (weighted_sum k h j ys) t
  weighted_sum-scaled f h t i j [] e = sym (zero_mul laws t)
  weighted_sum-scaled f h t i j (y ∷ ys) e =
      let z : i ≡ i + 0 = omega arith in
      let w : j + 0 ≡ j = omega arith in
      ap (λ v. k.add (k.mul y v) (weighted_sum k f (suc i) ys))
      (ap f z ∙ e 0 (omega arith) ∙ ap (λ n. k.mul (h n) t) w)
      ∙ ap (k.add (k.mul y (k.mul (h j) t))) (weighted_sum-scaled f h t (suc i) (suc j) ys (λ n lt.
      ap f (let s : suc i + n ≡ i + suc n = omega arith in s) ∙ e (suc n) (omega arith)
      ∙ ap (λ r. k.mul (h r) t) (let s : j + suc n ≡ suc j + n = omega arith in s)))
      ∙ ap (λ v. k.add v (k.mul (weighted_sum k h (suc j) ys) t)) (sym (laws.mul_assoc y (h j) t))
      ∙ sym (add_mul laws (k.mul y (h j)) (weighted_sum k h (suc j) ys) t)

  -- the upper half counts by its factor
  pub value-halves : (m : ℕ) (lo hi : List F) (p : Coordinates F) → length lo ≡ 2 ^ m →
      length hi ≤ 2 ^ m →
      value k (lo ++ hi) p ≡ k.add (value k lo p) (k.mul (value k hi p) (factor k m p))
  value-halves m lo hi p e h =
      let f = λ (j : ℕ). circle_basis k j p in
      weighted_sum-append f 0 lo hi
      ∙ ap (k.add (value k lo p))
      (weighted_sum-scaled f f (factor k m p) (0 + length lo) 0 hi (λ n lt.
      ap f (let s : 0 + length lo + n ≡ 2 ^ m + n = omega (arith, e) in s)
      ∙ basis-upper m n p (omega arith)
      ∙ ap (λ r. k.mul (f r) (factor k m p)) (let s : n ≡ 0 + n = omega arith in s)))

  -- sums of multiples, and multiples of sums
  weighted_sum-low : (f : ℕ → F) (t : F) (j : ℕ) (xs ys : List F) → length xs ≡ length ys →
      weighted_sum k f j (pairwise (λ a b. k.add a (k.mul b t)) xs ys)
      ≡ k.add (weighted_sum k f j xs) (k.mul (weighted_sum k f j ys) t)
  weighted_sum-low f t j [] [] e = sym (ap (k.add k.zero) (zero_mul laws t) ∙ laws.zero_add k.zero)
  weighted_sum-low f t j [] (y ∷ ys) e = absurd (omega arith)
  weighted_sum-low f t j (x ∷ xs) [] e = absurd (omega arith)
  weighted_sum-low f t j (x ∷ xs) (y ∷ ys) e =
      let tail : length xs ≡ length ys = omega arith in
      let swap : k.mul (k.mul y t) (f j) ≡ k.mul (k.mul y (f j)) t = laws.mul_assoc y t (f j)
      ∙ ap (k.mul y) (laws.mul_comm t (f j)) ∙ sym (laws.mul_assoc y (f j) t) in
      ap (k.add (k.mul (k.add x (k.mul y t)) (f j))) (weighted_sum-low f t (suc j) xs ys tail)
      ∙ ap
      (λ v. k.add v
      (k.add (weighted_sum k f (suc j) xs) (k.mul (weighted_sum k f (suc j) ys) t)))
      (add_mul laws x (k.mul y t) (f j) ∙ ap (k.add (k.mul x (f j))) swap)
      ∙ add_swap laws (k.mul x (f j)) (k.mul (k.mul y (f j)) t) (weighted_sum k f (suc j) xs)
      (k.mul (weighted_sum k f (suc j) ys) t)
      ∙ ap (k.add (k.add (k.mul x (f j)) (weighted_sum k f (suc j) xs)))
      (sym (add_mul laws (k.mul y (f j)) (weighted_sum k f (suc j) ys) t))

  -- a - b t is a + b (-t)
  pub high-low : (t : F) (xs ys : List F) →
      pairwise (λ a b. sub k a (k.mul b t)) xs ys ≡ pairwise (λ a b. k.add a (k.mul b (k.neg t))) xs
      ys
  high-low t [] ys = refl
  high-low t (x ∷ xs) [] = refl
  high-low t (x ∷ xs) (y ∷ ys) =
      ap (λ v. k.add x v ∷ pairwise (λ a b. sub k a (k.mul b t)) xs ys) (sym (mul_neg laws y t))
      ∙ ap (λ rest. k.add x (k.mul y (k.neg t)) ∷ rest) (high-low t xs ys)

  pub value-low : (t : F) (lo hi : List F) (p : Coordinates F) → length lo ≡ length hi →
      value k (pairwise (λ a b. k.add a (k.mul b t)) lo hi) p
      ≡ k.add (value k lo p) (k.mul (value k hi p) t)
  value-low t lo hi p e = weighted_sum-low (λ j. circle_basis k j p) t 0 lo hi e
