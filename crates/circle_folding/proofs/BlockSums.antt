-- Sums over blocks of entries.
use Rattle.std.specs.Prelude.{◌≡◌, ℕ, ◌+◌, ◌*◌, ◌<◌, ◌≤◌, List, [], ◌∷◌, ◌++◌, length, map, take}
use Rattle.std.specs.Prelude.{drop, replicate}
use Rattle.std.proofs.Common.{zero, suc, refl, sym, ap, ◌∙◌, arith, get_or, length-append}
use Rattle.std.proofs.Common.{append-nil, add-one}
use Rattle.std.proofs.Math.Nat.{mul-le-mul_right, zero-mul, suc-mul}
use Rattle.std.proofs.Math.Seq.{take-add}
use Rattle.std.proofs.lemmas.List.{take_more, length-take-le, length-replicate, take-append-drop}
use Rattle.std.proofs.lemmas.List.{length-drop}
use Rattle.circle_field.specs.Field.{FieldOps, RingLaws}
use Rattle.circle_field.specs.RingFacts.{zero_mul, add_mul}
use Rattle.circle_commit.proofs.ColumnSums.{dot-append}
use Rattle.circle_commit.specs.DotProduct.{dot, pairwise}
use Rattle.circle_folding.specs.Blocks.{spread, sum_of}
use Rattle.circle_folding.proofs.Vanished.{spread-append}

pub length-spread : {T : Type 0} (n : ℕ) (xs : List T) → length (spread n xs) ≡ length xs * n
length-spread n [] = sym (zero-mul n)
length-spread n (x ∷ xs) = length-append (replicate n x) (spread n xs)
    ∙ ap (λ m. m + length (spread n xs)) (length-replicate n x)
    ∙ ap (λ m. n + m) (length-spread n xs)
    ∙ (let e : n + length xs * n ≡ suc (length xs) * n = omega (arith, suc-mul (length xs) n) in e)

-- the first (i + 1) * n entries are the first i * n, and the next block
pub take-blocks : {T : Type 0} (n i : ℕ) (xs : List T) → take ((i + 1) * n) xs ≡ take (i * n) xs
    ++ take n (drop (i * n) xs)
take-blocks n i xs =
    let e : (i + 1) * n ≡ i * n + n = ap (λ m. m * n) (add-one i) ∙ suc-mul i n in
    ap (λ m. take m xs) e ∙ take-add (i * n) n xs

-- block i of m is within them
pub block-fits : (n i m count : ℕ) → i < m → count ≡ m * n → i * n + n ≤ count
block-fits n i m count lt long =
    let below : (i + 1) * n ≤ m * n = let le : i + 1 ≤ m = omega (arith, lt) in
    mul-le-mul_right n le in
    let next : (i + 1) * n ≡ i * n + n = ap (λ j. j * n) (add-one i) ∙ suc-mul i n in
    omega (arith, below, next, long)

module _ {F : Type 0} {k : FieldOps F} (laws : RingLaws k) where
  sum-append : (xs : List F) (x : F) → sum_of k (xs ++ x ∷ []) ≡ k.add (sum_of k xs) x
  sum-append [] x = laws.add_comm x k.zero
  sum-append (y ∷ ys) x = ap (k.add y) (sum-append ys x) ∙ sym (laws.add_assoc y (sum_of k ys) x)

  pub sum-more : (xs : List F) (i : ℕ) (x : F) → i < length xs → x ≡ get_or xs i x →
      sum_of k (take (i + 1) xs) ≡ k.add (sum_of k (take i xs)) x
  sum-more xs i x lt e = ap (sum_of k) (take_more xs i x lt)
      ∙ sum-append (take i xs) (get_or xs i x) ∙ ap (k.add (sum_of k (take i xs))) (sym e)

  -- entries times one value
  pub dot-replicate : (xs : List F) (n : ℕ) (v : F) → length xs ≡ n → dot k xs (replicate n v)
      ≡ k.mul (sum_of k xs) v
  dot-replicate [] zero v e = sym (zero_mul laws v)
  dot-replicate [] (suc n) v e = absurd (omega (arith, e))
  dot-replicate (x ∷ xs) zero v e = absurd (omega (arith, e))
  dot-replicate (x ∷ xs) (suc n) v e =
      ap (k.add (k.mul x v)) (dot-replicate xs n v (omega (arith, e)))
      ∙ sym (add_mul laws x (sum_of k xs) v)

  -- one block more
  pub dot-block : (word vs : List F) (n i : ℕ) (v : F) → i < length vs → v ≡ get_or vs i v →
      length word ≡ length vs * n →
      dot k (take ((i + 1) * n) word) (spread n (take (i + 1) vs))
      ≡ k.add (dot k (take (i * n) word) (spread n (take i vs)))
      (k.mul (sum_of k (take n (drop (i * n) word))) v)
  dot-block word vs n i v lt e long =
      let d = i * n in
      let before = take d word in
      let block = take n (drop d word) in
      let ds = spread n (take i vs) in
      let fits : (i + 1) * n ≤ length vs * n = let le : i + 1 ≤ length vs = omega (arith, lt) in
      mul-le-mul_right n le in
      let next : (i + 1) * n ≡ d + n = ap (λ m. m * n) (add-one i) ∙ suc-mul i n in
      let whole : d + n ≤ length word = omega (arith, fits, next, long) in
      let low : length before ≡ d = length-take-le d word (omega (arith, whole)) in
      let size : length block ≡ n =
      length-take-le n (drop d word) (omega (arith, whole, length-drop d word)) in
      let counted : length ds ≡ d = length-spread n (take i vs)
      ∙ ap (λ m. m * n) (length-take-le i vs (omega (arith, lt))) in
      ap (λ xs. dot k xs (spread n (take (i + 1) vs))) (take-blocks n i word)
      ∙ ap (dot k (before ++ block)) (ap (spread n) (take_more vs i v lt)
      ∙ spread-append n (take i vs) (get_or vs i v ∷ [])
      ∙ ap (λ u. ds ++ (replicate n u ++ [])) (sym e)
      ∙ ap (λ ys. ds ++ ys) (append-nil (replicate n v)))
      ∙ dot-append laws before block ds (replicate n v) (low ∙ sym counted)
      ∙ ap (k.add (dot k before ds)) (dot-replicate block n v size)

module _ {A B C : Type 0} (f : A → B → C) where
  pairwise-append : (xs us : List A) (ys vs : List B) → length xs ≡ length ys →
      pairwise f (xs ++ us) (ys ++ vs) ≡ pairwise f xs ys ++ pairwise f us vs
  pairwise-append [] us [] vs e = refl
  pairwise-append [] us (y ∷ ys) vs e = absurd (omega arith)
  pairwise-append (x ∷ xs) us [] vs e = absurd (omega arith)
  pairwise-append (x ∷ xs) us (y ∷ ys) vs e =
      ap (λ zs. f x y ∷ zs) (pairwise-append xs us ys vs (omega (arith, e)))

  pairwise-replicate : (xs : List A) (n : ℕ) (v : B) → length xs ≡ n → pairwise f xs (replicate n v)
      ≡ map (λ a. f a v) xs
  pairwise-replicate [] n v e = refl
  pairwise-replicate (x ∷ xs) zero v e = absurd (omega arith)
  pairwise-replicate (x ∷ xs) (suc n) v e =
      ap (λ zs. f x v ∷ zs) (pairwise-replicate xs n v (omega (arith, e)))

  -- the first block made anew, and then the others
  pub made-spread : (xs : List A) (ys : List C) (n len : ℕ) (v : B) (vs : List B) → len ≡ n →
      len ≤ length xs → ys ≡ map (λ a. f a v) (take len xs) →
      ys ++ pairwise f (drop len xs) (spread n vs) ≡ pairwise f xs (spread n (v ∷ vs))
  made-spread xs ys n len v vs e fits made =
      let size : length (take len xs) ≡ n = length-take-le len xs fits ∙ e in
      ap (λ b. b ++ pairwise f (drop len xs) (spread n vs))
      (made ∙ sym (pairwise-replicate (take len xs) n v size))
      ∙ sym
      (pairwise-append (take len xs) (drop len xs) (replicate n v) (spread n vs)
      (size ∙ sym (length-replicate n v)))
      ∙ ap (λ r. pairwise f r (replicate n v ++ spread n vs)) (take-append-drop len xs)
