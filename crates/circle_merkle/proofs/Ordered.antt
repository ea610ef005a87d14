-- Indices in ascending order with their places.
use Rattle.std.specs.Prelude.{◌≡◌, ◌≢◌, ℕ, ◌+◌, ◌/◌, ◌^◌, ◌<◌, ◌≤◌, ◌==◌, Bool, true, false, cond}
use Rattle.std.specs.Prelude.{List, [], ◌∷◌, length, map, All, Contains, slice_index}
use Rattle.std.specs.Prelude.{slice_index_or, if◌then◌else◌}
use Rattle.std.specs.List.{range_with_len, dedup, dedup_from}
use Rattle.std.specs.List.Sorted.{IsPermutation, IsSorted}
use Rattle.std.specs.Ordering.{is_lt, nat_cmp, ordering_then}
use Rattle.std.proofs.Common.{zero, suc, refl, sym, ap, subst, ◌∙◌, arith, eqb, get_or}
use Rattle.std.proofs.lemmas.Bool.{eq-eqb, ne_eqb, eqb-true, eqb-false}
use Rattle.std.proofs.lemmas.Cmp.{ranked, by_ranked}
use Rattle.std.proofs.lemmas.Map.Keys.{ge_from_not_lt}
use Rattle.std.proofs.lemmas.List.{length-map, get_or-map}
use Rattle.std.proofs.lemmas.List.FromFn.{fill_by_all, length-map-range_with_len}
use Rattle.std.proofs.lemmas.List.FromFn.{get_or-map-range_with_len}
use Rattle.std.proofs.lemmas.List.Elements.{All-nil, All-cons, All-head, All-tail, All-weaker}
use Rattle.std.proofs.lemmas.List.Filters.{All-dedup}
use Rattle.std.proofs.lemmas.List.Sorted.{IsNonDecreasingBy-from_all_adjacent, IsPermutation-map}
use Rattle.std.proofs.lemmas.List.Sorted.{All-permutation, Contains-permutation}
use Rattle.circle_merkle.specs.Order.{entry_at, placed, compared, IsOrdered, place_of, first_places}
use Rattle.circle_merkle.proofs.Ascending.{known-sorted}

-- the first stands no later than the second
abbrev pub Le : ℕ × ℕ → ℕ × ℕ → Type 0
Le x y = (x.0 ≤ y.0) × (x.0 ≡ y.0 → x.1 ≤ y.1)

le-compared : (x y : ℕ × ℕ) → is_lt (compared y x) ≡ false → Le x y
le-compared x y h =
    by_ranked (y.0 < x.0) (y.0 ≡ x.0) (x.0 < y.0) (nat_cmp y.0 x.0)
    (ranked y.0 x.0 (nat_cmp y.0 x.0) refl)
    (λ e lt. absurd (let no : true ≡ false =
    sym (ap (λ o. is_lt (ordering_then o (nat_cmp y.1 x.1))) e) ∙ h in cc))
    (λ e same. (
      omega arith,
      λ _. ge_from_not_lt y.1 x.1 (sym (ap (λ o. is_lt (ordering_then o (nat_cmp y.1 x.1))) e)
          ∙ h),
    ))
    (λ e gt. (omega arith, λ s. absurd (omega arith)))

le-trans : (x y z : ℕ × ℕ) → Le x y → Le y z → Le x z
le-trans x y z a b =
    let low : x.0 ≤ y.0 = a.0 in
    let high : y.0 ≤ z.0 = b.0 in (
      omega arith,
      λ e. let first : x.1 ≤ y.1 = a.1 (omega arith) in let second : y.1 ≤ z.1 =
          b.1 (omega arith) in omega arith,
    )

-- each entry stands no later than the next
abbrev Rises : ℕ × ℕ → List (ℕ × ℕ) → Type 0
Rises k [] = Unit {0}
Rises k (x ∷ xs) = Le k x × Rises x xs

sorted-tail : (x : ℕ × ℕ) (xs : List (ℕ × ℕ)) → IsSorted compared (x ∷ xs) → IsSorted compared xs
sorted-tail x xs sorted = λ k d low h.
    let e : suc k + 1 ≡ suc (k + 1) = omega arith in
    subst (λ j. is_lt (compared (get_or (x ∷ xs) j d) (get_or xs k d)) ≡ false) e
    (sorted (suc k) d (omega arith) (omega arith))

rises : (k : ℕ × ℕ) (xs : List (ℕ × ℕ)) → IsSorted compared (k ∷ xs) → Rises k xs
rises k [] sorted = tt
rises k (x ∷ xs) sorted = (
  le-compared k x (sorted 0 k (omega arith) (omega arith)),
  rises x xs (sorted-tail k (x ∷ xs) sorted),
)

rises-skip : (k x : ℕ × ℕ) (xs : List (ℕ × ℕ)) → Le k x → Rises x xs → Rises k xs
rises-skip k x [] le h = tt
rises-skip k x (y ∷ ys) le h = (le-trans k x y le h.0, h.1)

not-below : (x : ℕ × ℕ) (xs : List (ℕ × ℕ)) → Rises x xs → All (λ y. Le x y) xs
not-below x [] h = All-nil (λ y. Le x y)
not-below x (y ∷ ys) h =
    All-cons (λ z. Le x z) y ys h.0
    (All-weaker (λ z. Le y z) (λ z. Le x z) (λ z le. le-trans x y z h.0 le) ys (not-below y ys h.1))

-- of equal indices the first is left
abbrev pub same_index : ℕ × ℕ → ℕ × ℕ → Bool
same_index x y = x.0 == y.0

-- no entry of the list has the index of this one and a lower place
abbrev pub IsLeast : List (ℕ × ℕ) → ℕ × ℕ → Type 0
IsLeast xs e = All (λ x. x.0 ≡ e.0 → e.1 ≤ x.1) xs

least-cond : (b : Bool) (k x : ℕ × ℕ) (xs : List (ℕ × ℕ)) → (x.0 == k.0) ≡ b → Le k x → Rises x xs →
    All (IsLeast (k ∷ xs)) (dedup_from same_index k xs) →
    All (IsLeast (x ∷ xs)) (dedup_from same_index x xs) →
    All (IsLeast (k ∷ x ∷ xs))
    (cond b (dedup_from same_index k xs) (k ∷ dedup_from same_index x xs))
least-cond true k x xs test le h ih jh =
    let same : x.0 ≡ k.0 = eqb-true x.0 k.0 test in
    All-weaker (IsLeast (k ∷ xs)) (IsLeast (k ∷ x ∷ xs))
    (λ e least.
    let first = All-head (λ y. y.0 ≡ e.0 → e.1 ≤ y.1) k xs least in
    All-cons (λ y. y.0 ≡ e.0 → e.1 ≤ y.1) k (x ∷ xs) first
    (All-cons (λ y. y.0 ≡ e.0 → e.1 ≤ y.1) x xs
    (λ s. let one : e.1 ≤ k.1 = first (omega arith) in let two : k.1 ≤ x.1 = le.1 (omega arith) in
    omega arith)
    (All-tail (λ y. y.0 ≡ e.0 → e.1 ≤ y.1) k xs least)))
    (dedup_from same_index k xs) ih
least-cond false k x xs test le h ih jh =
    let low : k.0 ≤ x.0 = le.0 in
    let ne : x.0 ≢ k.0 = eqb-false x.0 k.0 test in
    let later = All-cons (λ y. Le x y) x xs (omega arith, λ _. omega arith) (not-below x xs h) in
    let kept = All-dedup same_index (λ y. Le x y) (x ∷ xs) later in
    let first : IsLeast (k ∷ x ∷ xs) k =
    All-cons (λ y. y.0 ≡ k.0 → k.1 ≤ y.1) k (x ∷ xs) (λ _. omega arith)
    (All-weaker (λ y. Le x y) (λ y. y.0 ≡ k.0 → k.1 ≤ y.1)
    (λ y above s. absurd (let high : x.0 ≤ y.0 = above.0 in omega (arith, ne))) (x ∷ xs)
    later) in
    All-cons (IsLeast (k ∷ x ∷ xs)) k (dedup_from same_index x xs) first
    (λ i d lt.
    let e = slice_index_or (dedup_from same_index x xs) i d in
    let high : x.0 ≤ e.0 = (kept i d lt).0 in
    All-cons (λ y. y.0 ≡ e.0 → e.1 ≤ y.1) k (x ∷ xs) (λ s. absurd (omega (arith, ne))) (jh i d lt))

least-from : (k : ℕ × ℕ) (xs : List (ℕ × ℕ)) → Rises k xs →
    All (IsLeast (k ∷ xs)) (dedup_from same_index k xs)
least-from k [] h =
    All-cons (IsLeast (k ∷ [])) k []
    (All-cons (λ y. y.0 ≡ k.0 → k.1 ≤ y.1) k [] (λ _. omega arith)
    (All-nil (λ y. y.0 ≡ k.0 → k.1 ≤ y.1))) (All-nil (IsLeast (k ∷ [])))
least-from k (x ∷ xs) h =
    least-cond (x.0 == k.0) k x xs refl h.0 h.1 (least-from k xs (rises-skip k x xs h.0 h.1))
    (least-from x xs h.1)

least : (xs : List (ℕ × ℕ)) → IsSorted compared xs → All (IsLeast xs) (dedup same_index xs)
least [] sorted = All-nil (IsLeast [])
least (x ∷ xs) sorted = least-from x xs (rises x xs sorted)

-- the indices of what is left
abbrev pub indices_of : List (ℕ × ℕ) → List ℕ
indices_of xs = map (λ e. e.0) xs

cond-indices : (b : Bool) (xs ys : List (ℕ × ℕ)) → indices_of (cond b xs ys)
    ≡ cond b (indices_of xs) (indices_of ys)
cond-indices true xs ys = refl
cond-indices false xs ys = refl

indices-from : (k : ℕ × ℕ) (xs : List (ℕ × ℕ)) → indices_of (dedup_from same_index k xs)
    ≡ dedup_from eqb k.0 (indices_of xs)
indices-from k [] = refl
indices-from k (x ∷ xs) =
    cond-indices (x.0 == k.0) (dedup_from same_index k xs) (k ∷ dedup_from same_index x xs)
    ∙ ap (λ ys. cond (x.0 == k.0) ys (k.0 ∷ indices_of (dedup_from same_index x xs)))
    (indices-from k xs)
    ∙ ap (λ ys. cond (x.0 == k.0) (dedup_from eqb k.0 (indices_of xs)) (k.0 ∷ ys))
    (indices-from x xs)

indices-dedup : (xs : List (ℕ × ℕ)) → indices_of (dedup same_index xs) ≡ dedup eqb (indices_of xs)
indices-dedup [] = refl
indices-dedup (x ∷ xs) = indices-from x xs

indices-map : (f : ℕ → ℕ × ℕ) (ks : List ℕ) → indices_of (map f ks) ≡ map (λ k. (f k).0) ks
indices-map f [] = refl
indices-map f (k ∷ ks) = ap (λ ys. (f k).0 ∷ ys) (indices-map f ks)

indices-placed : (indices : List ℕ) → indices_of (placed indices) ≡ indices
indices-placed indices =
    indices-map (entry_at indices) (range_with_len 0 (length indices))
    ∙ sym (fill_by_all (slice_index indices) indices (length indices) 0 refl (λ k lt. refl))

-- the place of the first that stands below a position
pub place-first : (level i : ℕ) (indices : List ℕ) (k : ℕ) → k < length indices →
    slice_index indices k / 2 ^ level ≡ i →
    ((j : ℕ) → j < k → slice_index indices j / 2 ^ level ≢ i) → place_of indices level i ≡ k
place-first level i [] k lt e others = absurd (omega arith)
place-first level i (index ∷ indices) zero lt e others =
    ap (λ b. if b then 0 else suc (place_of indices level i)) (eq-eqb (index / 2 ^ level) i e)
place-first level i (index ∷ indices) (suc k) lt e others =
    ap (λ b. if b then 0 else suc (place_of indices level i))
    (ne_eqb (index / 2 ^ level) i (others 0 (omega arith)))
    ∙ ap suc (place-first level i indices k (omega arith) e (λ j h. others (suc j) (omega arith)))

-- an entry has the index that stands at its place
abbrev pub IsPlaced : List ℕ → ℕ × ℕ → Type 0
IsPlaced indices e = (e.1 < length indices) × (slice_index indices e.1 ≡ e.0)

all-placed : (indices : List ℕ) → All (IsPlaced indices) (placed indices)
all-placed indices = λ k d lt.
    let n = length indices in
    let short : k < n = omega (arith, lt, length-map-range_with_len (entry_at indices) 0 n) in
    let at = get_or-map-range_with_len (entry_at indices) 0 n k k d short (omega arith) in
    subst (IsPlaced indices) (sym at) (short, refl)

module _ (indices : List ℕ) (order : List (ℕ × ℕ)) (ordered : IsOrdered indices order) where
  pub order-placed : All (IsPlaced indices) order
  order-placed = All-permutation (IsPlaced indices) (placed indices) order ordered.permuted
      (all-placed indices)

  -- each index stands in the order
  pub order-contains : (k : ℕ) → k < length indices → Contains order (slice_index indices k, k)
  order-contains k lt =
      let n = length indices in
      let e : ℕ × ℕ = (slice_index indices k, k) in
      let long : k < length (placed indices) =
      omega (arith, lt, length-map-range_with_len (entry_at indices) 0 n) in
      Contains-permutation (placed indices) order e ordered.permuted
      (k, long, get_or-map-range_with_len (entry_at indices) 0 n k k e lt (omega arith))

  -- an entry's index is no greater than a later one's
  pub order-rises : (i k : ℕ) (d : ℕ × ℕ) → i ≤ k → k < length order →
      (get_or order i d).0 ≤ (get_or order k d).0
  order-rises i k d le h =
      IsNonDecreasingBy-from_all_adjacent (λ e. e.0) order
      (λ k d h.
      (le-compared (get_or order k d) (get_or order (k + 1) d)
      (ordered.ascending k d (omega arith) h)).0) i k d le h

  indices-sorted : IsSorted nat_cmp (indices_of order)
  indices-sorted = λ k d low h.
      let none : ℕ × ℕ = (0, 0) in
      let count = length-map order (λ e. e.0) in
      let here = get_or-map (λ e. e.0) order k none d (omega (arith, h, count)) in
      let next = get_or-map (λ e. e.0) order (k + 1) none d (omega (arith, h, count)) in
      let le : (get_or order k none).0 ≤ (get_or order (k + 1) none).0 =
      (le-compared (get_or order k none) (get_or order (k + 1) none)
      (ordered.ascending k none low (omega (arith, h, count)))).0 in
      ap (λ x. is_lt (nat_cmp x (get_or (indices_of order) k d))) next
      ∙ ap (λ y. is_lt (nat_cmp (get_or order (k + 1) none).0 y)) here
      ∙ by_ranked ((get_or order (k + 1) none).0 < (get_or order k none).0)
      ((get_or order (k + 1) none).0 ≡ (get_or order k none).0)
      ((get_or order k none).0 < (get_or order (k + 1) none).0)
      (nat_cmp (get_or order (k + 1) none).0 (get_or order k none).0)
      (ranked (get_or order (k + 1) none).0 (get_or order k none).0
      (nat_cmp (get_or order (k + 1) none).0 (get_or order k none).0) refl)
      (λ e lt. absurd (omega arith)) (λ e same. ap is_lt e) (λ e gt. ap is_lt e)

  left-placed : All (λ e. place_of indices 0 e.0 ≡ e.1) (dedup same_index order)
  left-placed = λ i d lt.
      let e = slice_index_or (dedup same_index order) i d in
      let at = All-dedup same_index (IsPlaced indices) order order-placed i d lt in
      let lowest = least order ordered.ascending i d lt in
      let whole : slice_index indices e.1 / 2 ^ 0 ≡ e.0 = omega (arith, at.1) in
      place-first 0 e.0 indices e.1 at.0 whole
      (λ j h same.
      let short : j < length indices = omega (arith, at.0, h) in
      let entry : ℕ × ℕ = (slice_index indices j, j) in
      let c = order-contains j short in
      let fact = subst (λ x. x.0 ≡ e.0 → e.1 ≤ x.1) c.2 (lowest c.0 entry c.1) in
      let le : e.1 ≤ j = fact (omega (arith, same)) in
      absurd (omega (arith, le, h)))

  as-map : (xs : List (ℕ × ℕ)) → All (λ e. place_of indices 0 e.0 ≡ e.1) xs →
      xs ≡ map (λ p. (p, place_of indices 0 p)) (indices_of xs)
  as-map [] all = refl
  as-map (x ∷ xs) all =
      ap (λ k. (x.0, k) ∷ xs) (sym (All-head (λ e. place_of indices 0 e.0 ≡ e.1) x xs all))
      ∙ ap (λ ys. (x.0, place_of indices 0 x.0) ∷ ys)
      (as-map xs (All-tail (λ e. place_of indices 0 e.0 ≡ e.1) x xs all))

  -- what is left are the distinct indices with the places of the first
  pub ordered-firsts : (levels : ℕ) → All (λ i. i < 2 ^ levels) indices → dedup same_index order
      ≡ first_places indices levels
  ordered-firsts levels below =
      let permuted = subst (λ xs. IsPermutation xs (indices_of order)) (indices-placed indices)
      (IsPermutation-map (λ e. e.0) (placed indices) order ordered.permuted) in
      as-map (dedup same_index order) left-placed
      ∙ ap (map (λ p. (p, place_of indices 0 p)))
      (indices-dedup order ∙ known-sorted indices (indices_of order) levels permuted
      indices-sorted below)
