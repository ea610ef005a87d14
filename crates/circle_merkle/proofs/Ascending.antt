-- Numbers in ascending order, told by which they are.
use Rattle.std.specs.Prelude.{◌≡◌, ℕ, ◌+◌, ◌-◌, ◌/◌, ◌^◌, ◌<◌, ◌≤◌, ◌==◌, ◌||◌, Bool, true, false}
use Rattle.std.specs.Prelude.{List, [], ◌∷◌, filter, All, Contains, slice_index, slice_index_or}
use Rattle.std.specs.Prelude.{if◌then◌else◌}
use Rattle.std.specs.List.{list_any, range_with_len, dedup}
use Rattle.std.specs.List.Sorted.{IsStrictlyIncreasing, IsPermutation, IsSorted}
use Rattle.std.specs.Ordering.{nat_cmp}
use Rattle.std.proofs.Common.{zero, suc, refl, sym, ap, subst, ◌∙◌, arith, ⊎_elim, eqb}
use Rattle.std.proofs.lemmas.Bool.{eq-eqb, ne_eqb, eqb-true, cases_eq}
use Rattle.std.proofs.lemmas.List.Elements.{All-head, All-tail}
use Rattle.std.proofs.lemmas.List.Folds.{Any-from_list_any, list_any-from_Any}
use Rattle.std.proofs.lemmas.List.Filters.{All-dedup}
use Rattle.std.proofs.lemmas.List.Kept.{Contains-dedup_nat, Contains-from_dedup}
use Rattle.std.proofs.lemmas.List.Sorted.{list_any-IsPermutation, All-permutation}
use Rattle.std.proofs.lemmas.Map.Keys.{IsStrictlyIncreasing-dedup}
use Rattle.circle_merkle.specs.Tree.{is_known, known}
use Rattle.circle_merkle.proofs.Pairs.{Starts}

-- whether the number is one of the list
abbrev pub has : ℕ → List ℕ → Bool
has y xs = list_any (λ x. x == y) xs

-- the numbers stand in ascending order from low on, below high
abbrev Within : ℕ → ℕ → List ℕ → Type 0
Within low high [] = Unit {0}
Within low high (x ∷ xs) = (low ≤ x) × (x < high) × Within (suc x) high xs

not-below : (low high y : ℕ) (xs : List ℕ) → Within low high xs → y < low → has y xs ≡ false
not-below low high y [] w h = refl
not-below low high y (x ∷ xs) w h =
    ap (λ b. b || has y xs) (ne_eqb x y (λ e. absurd (let le : low ≤ x = w.0 in omega arith)))
    ∙ not-below (suc x) high y xs w.2 (let le : low ≤ x = w.0 in omega arith)

module _ (p : ℕ → Bool) where
  -- ascending numbers of a range are those that pass where each passes if and only if it is one
  ascending-unique : (a n : ℕ) (xs : List ℕ) → Within a (a + n) xs →
      ((y : ℕ) → a ≤ y → y < a + n → has y xs ≡ p y) → xs ≡ filter p (range_with_len a n)
  ascending-unique a zero [] w same = refl
  ascending-unique a zero (x ∷ xs) w same =
      absurd (let low : a ≤ x = w.0 in let high : x < a + 0 = w.1 in omega arith)
  ascending-unique a (suc n) [] w same =
      ascending-unique (a + 1) n [] tt (λ y l h. same y (omega arith) (omega arith))
      ∙ ap
      (λ b. if b then a ∷ filter p (range_with_len (a + 1) n) else filter p
      (range_with_len (a + 1) n)) (same a (omega arith) (omega arith))
  ascending-unique a (suc n) (x ∷ xs) w same =
      let low : a ≤ x = w.0 in
      let high : x < a + suc n = w.1 in
      let end : a + suc n ≡ a + 1 + n = omega arith in
      ⊎_elim
      (λ e.
      let later : Within (a + 1) (a + 1 + n) xs =
      subst (λ h. Within (a + 1) h xs) end
      (subst (λ b. Within b (a + suc n) xs) (let s : suc x ≡ a + 1 = omega arith in s) w.2) in
      let here : p a ≡ true = sym (same a (omega arith) (omega arith))
      ∙ ap (λ b. b || has a xs) (eq-eqb x a e) in
      let others =
      λ (y : ℕ) (l : a + 1 ≤ y) (h : y < a + 1 + n). sym
      (ap (λ b. b || has y xs) (ne_eqb x y (λ s. absurd (omega arith))))
      ∙ same y (omega arith) (omega arith) in
      ap (λ z. z ∷ xs) e ∙ ap (λ zs. a ∷ zs) (ascending-unique (a + 1) n xs later others)
      ∙ ap
      (λ b. if b then a ∷ filter p (range_with_len (a + 1) n) else filter p
      (range_with_len (a + 1) n)) (sym here))
      (λ ne.
      let above : a + 1 ≤ x = omega (arith, ne) in
      let later : Within (a + 1) (a + 1 + n) (x ∷ xs) =
      subst (λ h. Within (a + 1) h (x ∷ xs)) end (above, high, w.2) in
      let here : p a ≡ false = sym (same a (omega arith) (omega arith))
      ∙ not-below (a + 1) (a + 1 + n) a (x ∷ xs) later (omega arith) in
      ascending-unique (a + 1) n (x ∷ xs) later (λ y l h. same y (omega arith) (omega arith))
      ∙ ap
      (λ b. if b then a ∷ filter p (range_with_len (a + 1) n) else filter p
      (range_with_len (a + 1) n)) (sym here))
      (cases_eq x a)

increasing-tail : (x : ℕ) (xs : List ℕ) → IsStrictlyIncreasing (x ∷ xs) → IsStrictlyIncreasing xs
increasing-tail x xs inc = λ k h.
    let e : suc k + 1 ≡ suc (k + 1) = omega arith in
    subst (λ j. slice_index xs k < slice_index (x ∷ xs) j) e (inc (suc k) (omega arith))

increasing-second : (x : ℕ) (xs : List ℕ) → IsStrictlyIncreasing (x ∷ xs) → Starts (suc x) xs
increasing-second x [] inc = tt
increasing-second x (y ∷ xs) inc = let lt : x < y = inc 0 (omega arith) in lt

within-increasing : (low high : ℕ) (xs : List ℕ) → IsStrictlyIncreasing xs → Starts low xs →
    All (λ x. x < high) xs → Within low high xs
within-increasing low high [] inc starts below = tt
within-increasing low high (x ∷ xs) inc starts below = (
  starts,
  All-head (λ x. x < high) x xs below,
  within-increasing (suc x) high xs (increasing-tail x xs inc) (increasing-second x xs inc)
      (All-tail (λ x. x < high) x xs below),
)

starts-zero : (xs : List ℕ) → Starts 0 xs
starts-zero [] = tt
starts-zero (x ∷ xs) = omega arith

has-contains : (y : ℕ) (xs : List ℕ) → has y xs ≡ true → Contains xs y
has-contains y xs h = let any = Any-from_list_any (λ x. x == y) xs h in
    (any.0, any.2, subst (λ z. slice_index_or xs any.0 z ≡ z) (eqb-true any.1 y any.4) any.3)

contains-has : (y : ℕ) (xs : List ℕ) → Contains xs y → has y xs ≡ true
contains-has y xs c = list_any-from_Any (λ x. x == y) xs (c.0, y, c.1, c.2, eq-eqb y y refl)

same-test : (a b : Bool) → (a ≡ true → b ≡ true) → (b ≡ true → a ≡ true) → a ≡ b
same-test true b f g = sym (f refl)
same-test false true f g = g refl
same-test false false f g = refl

has-dedup : (y : ℕ) (xs : List ℕ) → has y (dedup eqb xs) ≡ has y xs
has-dedup y xs = same-test (has y (dedup eqb xs)) (has y xs)
    (λ h. contains-has y xs (Contains-from_dedup eqb xs y (has-contains y (dedup eqb xs) h)))
    (λ h. contains-has y (dedup eqb xs) (Contains-dedup_nat xs y (has-contains y xs h)))

known-lowest : (indices : List ℕ) (y : ℕ) → is_known indices 0 y ≡ has y indices
known-lowest [] y = refl
known-lowest (index ∷ indices) y =
    let e : index / 2 ^ 0 ≡ index = omega arith in
    ap (λ i. (i == y) || is_known indices 0 y) e
    ∙ ap (λ b. (index == y) || b) (known-lowest indices y)

-- sorted and without repetitions, the indices are the known positions of the lowest level
pub known-sorted : (indices sorted : List ℕ) (levels : ℕ) → IsPermutation indices sorted →
    IsSorted nat_cmp sorted → All (λ i. i < 2 ^ levels) indices →
    dedup eqb sorted ≡ known indices levels 0
known-sorted indices sorted levels permuted ordered below =
    let within =
    within-increasing 0 (2 ^ levels) (dedup eqb sorted)
    (IsStrictlyIncreasing-dedup sorted ordered) (starts-zero (dedup eqb sorted))
    (All-dedup eqb (λ i. i < 2 ^ levels) sorted
    (All-permutation (λ i. i < 2 ^ levels) indices sorted permuted below)) in
    ascending-unique (is_known indices 0) 0 (2 ^ levels) (dedup eqb sorted)
    (subst (λ h. Within 0 h (dedup eqb sorted)) (let e : 2 ^ levels ≡ 0 + 2 ^ levels =
    omega arith in e) within)
    (λ y l h. has-dedup y sorted
    ∙ sym (list_any-IsPermutation (λ x. x == y) indices sorted permuted)
    ∙ sym (known-lowest indices y))
    ∙ ap (λ k. filter (is_known indices 0) (range_with_len 0 (2 ^ k)))
    (let e : levels ≡ levels - 0 = omega arith in e)
