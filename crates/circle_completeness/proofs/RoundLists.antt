-- Lists of one entry, entries of lists, and numbers that a test keeps.
use Rattle.std.specs.Prelude.{◌≡◌, ℕ, ◌+◌, ◌-◌, ◌/◌, ◌^◌, ◌<◌, ◌≤◌, ◌==◌, ◌||◌, Bool, true, false}
use Rattle.std.specs.Prelude.{if◌then◌else◌, List, [], ◌∷◌, length, map, zip, Some, slice_get}
use Rattle.std.specs.Prelude.{slice_index_or}
use Rattle.std.specs.List.{filter, list_any, range_with_len}
use Rattle.std.proofs.Common.{zero, suc, refl, ◌∙◌, ap, arith, cond, ⊎_elim}
use Rattle.std.proofs.Math.Nat.{max-zero}
use Rattle.std.proofs.lemmas.Bool.{cases_eq, eq-eqb, ne_eqb}
use Rattle.std.proofs.lemmas.List.FromFn.{length-range_with_len, get_or-range_with_len}
use Rattle.std.proofs.lemmas.Option.{get_or_from_slice_get}
use Rattle.std.proofs.lemmas.Slice.Zip.{length-zip, get_or-zip}
use Rattle.circle_commit.specs.Mmcs.{max_height, row_at, rows_at}
use Rattle.circle_commit.specs.MmcsFacts.{row_at-powers}
use Rattle.circle_commit.specs.RowMajorMatrix.{height_of, rows}
use Rattle.circle_commit.specs.declared.matrix.RowMajorMatrix.{RowMajorMatrix}

-- an entry of a list
pub entry : {A : Type 0} (xs : List A) (n : ℕ) → n < length xs → (x : A) × (slice_get xs n ≡ Some x)
entry [] n lt = absurd (omega (arith, lt))
entry (x ∷ xs) zero lt = (x, refl)
entry (x ∷ xs) (suc n) lt = entry xs n (omega (arith, lt))

-- a list that is taken to one value is one element
pub only : {A B : Type 0} (f : A → B) (xs : List A) (y : B) → map f xs ≡ y ∷ [] →
    (x : A) × (xs ≡ x ∷ []) × (f x ≡ y)
only f [] y is = let none : 0 ≡ 1 = ap length is in absurd (omega (arith, none))
only f (x ∷ []) y is = (x, refl, ap (λ ys. slice_index_or ys 0 y) is)
only f (x ∷ z ∷ xs) y is = let more : suc (suc (length (map f xs))) ≡ 1 = ap length is in
    absurd (omega (arith, more))

-- a choice by one test and by another that is the same
pub same-where : {A : Type 0} (b c : Bool) (x y z : A) → b ≡ c → (c ≡ true → x ≡ y) →
    (if b then x else z) ≡ (if c then y else z)
same-where b true x y z is same = ap (λ t. if t then x else z) is ∙ same refl
same-where b false x y z is same = ap (λ t. if t then x else z) is

-- a number below those of a range is none of them
none-below : (p : ℕ → Bool) (h a n : ℕ) → h < a →
    list_any (λ m. m == h) (filter p (range_with_len a n)) ≡ false
none-below p h a zero lt = refl
none-below p h a (suc n) lt =
    let rest = filter p (range_with_len (a + 1) n) in
    let later = none-below p h (a + 1) n (omega (arith, lt)) in
    elim (p a) as (λ b. list_any (λ m. m == h) (cond b (a ∷ rest) rest) ≡ false) [
      | true ↦ ap (λ b. b || list_any (λ m. m == h) rest) (ne_eqb a h (λ e. omega (arith, e, lt)))
          ∙ later
      | false ↦ later
    ]

-- a number of a range is among those that pass a test where it passes
pub among-kept : (p : ℕ → Bool) (h a n : ℕ) → a ≤ h → h < a + n →
    list_any (λ m. m == h) (filter p (range_with_len a n)) ≡ p h
among-kept p h a zero low lt = absurd (omega (arith, low, lt))
among-kept p h a (suc n) low lt =
    let rest = filter p (range_with_len (a + 1) n) in
    ⊎_elim
    (λ same.
    let none = none-below p h (a + 1) n (omega (arith, same)) in
    ap (λ m. list_any (λ i. i == h) (cond (p m) (m ∷ rest) rest)) same
    ∙ elim (p h) as (λ b. list_any (λ m. m == h) (cond b (h ∷ rest) rest) ≡ b) [
      | true ↦ ap (λ b. b || list_any (λ m. m == h) rest) (eq-eqb h h refl)
      | false ↦ none
    ])
    (λ other.
    let later = among-kept p h (a + 1) n (omega (arith, low, other)) (omega (arith, lt)) in
    elim (p a) as (λ b. list_any (λ m. m == h) (cond b (a ∷ rest) rest) ≡ p h) [
      | true ↦ ap (λ b. b || list_any (λ m. m == h) rest) (ne_eqb a h other) ∙ later
      | false ↦ later
    ])
    (cases_eq a h)

-- the row of one matrix of 2^a rows at an index
pub one-row : {T : Type 0} (m : RowMajorMatrix T) (a i : ℕ) → height_of m ≡ 2 ^ a →
    rows_at (m ∷ []) i ≡ slice_index_or (rows m) i [] ∷ []
one-row m a i tall =
    let highest : max_height (m ∷ []) ≡ 2 ^ a = max-zero (height_of m) ∙ tall in
    let level : a - a ≡ 0 = omega arith in
    let own : i / 1 ≡ i = omega arith in
    let index : row_at (max_height (m ∷ [])) (height_of m) i ≡ i =
    ap (λ t. row_at t (height_of m) i) highest ∙ ap (λ n. row_at (2 ^ a) n i) tall
    ∙ row_at-powers a a i (omega arith) ∙ ap (λ b. i / 2 ^ b) level ∙ own in
    ap (λ j. slice_index_or (rows m) j [] ∷ []) index

-- two lists side by side, each pair with its place
module _ {A B : Type 0} (xs : List A) (ys : List B) (i : ℕ)
    (within : i < length (zip (range_with_len 0 (length (zip xs ys))) (zip xs ys))) where
  in-both : i < length (zip xs ys)
  in-both = omega (arith, within, length-zip (range_with_len 0 (length (zip xs ys))) (zip xs ys))

  pub in-first : i < length xs
  in-first = omega (arith, in-both, length-zip xs ys)

  pub in-second : i < length ys
  in-second = omega (arith, in-both, length-zip xs ys)

  pub numbered-read : (x : A) (y : B) (d : ℕ × (A × B)) → slice_get xs i ≡ Some x →
      slice_get ys i ≡ Some y →
      slice_index_or (zip (range_with_len 0 (length (zip xs ys))) (zip xs ys)) i d ≡ (i, (x, y))
  numbered-read x y d is_x is_y =
      let count = length (zip xs ys) in
      let own : 0 + i ≡ i = omega arith in
      get_or-zip (range_with_len 0 count) (zip xs ys) i d
      (omega (arith, in-both, length-range_with_len 0 count)) in-both
      ∙ ap (λ n. (n, slice_index_or (zip xs ys) i d.1)) (get_or-range_with_len 0 count i d.0 in-both
      ∙ own)
      ∙ ap (λ pair. (i, pair))
      (get_or-zip xs ys i d.1 in-first in-second
      ∙ ap (λ a. (a, slice_index_or ys i d.1.1)) (get_or_from_slice_get xs i x d.1.0 is_x)
      ∙ ap (λ b. (x, b)) (get_or_from_slice_get ys i y d.1.1 is_y))
