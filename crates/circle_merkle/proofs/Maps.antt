-- Maps over ranges.
use Rattle.std.specs.Prelude.{◌≡◌, ℕ, ◌+◌, ◌<◌, ◌≤◌, Bool, All, filter, List, [], ◌∷◌, ◌++◌, length}
use Rattle.std.specs.Prelude.{map, Vec}
use Rattle.std.specs.List.{range_with_len}
use Rattle.std.proofs.Common.{zero, suc, refl, sym, ap, ◌∙◌, arith, get_or}
use Rattle.std.proofs.lemmas.List.Elements.{All-head, All-tail, All-filter}
use Rattle.std.proofs.lemmas.List.{append_assoc, length-map, get_or-map, map-append}
use Rattle.std.proofs.lemmas.List.FromFn.{length-range_with_len, get_or-range_with_len}
use Rattle.std.proofs.lemmas.List.FromFn.{length-map-range_with_len, get_or-map-range_with_len}
use Rattle.std.proofs.lemmas.List.FromFn.{map-range_with_len_more}

-- maps that agree on a range
pub map-agree : {X : Type 0} (f h : ℕ → X) (a n : ℕ) → ((i : ℕ) → i < a + n → f i ≡ h i) →
    map f (range_with_len a n) ≡ map h (range_with_len a n)
map-agree f h a zero same = refl
map-agree f h a (suc n) same =
    ap (λ x. x ∷ map f (range_with_len (a + 1) n)) (same a (omega arith))
    ∙ ap (λ xs. h a ∷ xs) (map-agree f h (a + 1) n (λ i lt. same i (omega arith)))

-- what a vector of vectors holds at a place, where its contents are a map
pub items-at : {X A : Type 0} (f : ℕ → List X) (n k : ℕ) (vs : List (Vec X A)) (v : Vec X A) →
    map (λ v. v.items) vs ≡ map f (range_with_len 0 n) → k < n →
    v ≡ get_or vs k v → v.items ≡ f k
items-at f n k vs v e lt at =
    let long : k < length vs =
    omega (
      arith,
      sym (length-map vs (λ v. v.items)) ∙ ap length e
          ∙ length-map-range_with_len f 0 n,
    ) in
    ap (λ v. v.items) at ∙ sym (get_or-map (λ v. v.items) vs k v [] long)
    ∙ ap (λ xs. get_or xs k []) e ∙ get_or-map-range_with_len f 0 n k k [] lt (omega arith)

-- how many vectors there are
pub items-count : {X A : Type 0} (f : ℕ → List X) (n : ℕ) (vs : List (Vec X A)) →
    map (λ v. v.items) vs ≡ map f (range_with_len 0 n) → length vs ≡ n
items-count f n vs e = sym (length-map vs (λ v. v.items)) ∙ ap length e
    ∙ length-map-range_with_len f 0 n

-- one vector more
pub items-more : {X A : Type 0} (f : ℕ → List X) (n : ℕ) (vs : List (Vec X A)) (v : Vec X A) →
    map (λ v. v.items) vs ≡ map f (range_with_len 0 n) → v.items ≡ f n →
    map (λ v. v.items) (vs ++ v ∷ []) ≡ map f (range_with_len 0 (n + 1))
items-more f n vs v e here =
    map-append (λ v. v.items) vs (v ∷ []) ∙ ap (λ xs. xs ++ v.items ∷ []) e
    ∙ ap (λ x. map f (range_with_len 0 n) ++ x ∷ []) here
    ∙ sym (map-range_with_len_more f 0 n n (omega arith))

-- maps that agree on a list's elements
pub map-same : {X Y : Type 0} (f h : X → Y) (xs : List X) → All (λ x. f x ≡ h x) xs →
    map f xs ≡ map h xs
map-same f h [] same = refl
map-same f h (x ∷ xs) same = ap (λ y. y ∷ map f xs) (All-head (λ x. f x ≡ h x) x xs same)
    ∙ ap (λ ys. h x ∷ ys) (map-same f h xs (All-tail (λ x. f x ≡ h x) x xs same))

-- the elements of a range are within it
pub range-within : (p : ℕ → Bool) (a n high : ℕ) → a + n ≤ high →
    All (λ i. i < high) (filter p (range_with_len a n))
range-within p a n high h = All-filter p (λ i. i < high) (range_with_len a n) (λ k d lt.
    let short : k < n = omega (arith, length-range_with_len a n, lt) in
    omega (arith, get_or-range_with_len a n k d short))

-- the first of what is left goes to the end of what is done
pub moved_over : {X : Type 0} (done more : List X) (x : X) (later left whole : List X) →
    more ≡ done ++ x ∷ [] → left ≡ x ∷ later → done ++ left ≡ whole → more ++ later ≡ whole
moved_over done more x later left whole e f h =
    ap (λ xs. xs ++ later) e ∙ append_assoc done (x ∷ []) later ∙ ap (λ xs. done ++ xs) (sym f) ∙ h
