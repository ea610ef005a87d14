-- What is opened at each query, as lists.
use Rattle.std.specs.Prelude.{◌≡◌, ℕ, ◌+◌, ◌<◌, List, [], ◌∷◌, length, map, zip, slice_index_or}
use Rattle.std.specs.List.{range_with_len}
use Rattle.std.proofs.Common.{zero, suc, refl, sym, ◌∙◌, ap, arith}
use Rattle.circle_commit.specs.DotProduct.{pairwise}

-- f of each entry and its place, from a place on
abbrev pub placed : {T : Type 0} → (ℕ → ℕ → T) → ℕ → List ℕ → List T
placed f n [] = []
placed f n (q ∷ qs) = f n q ∷ placed f (n + 1) qs

module _ {T : Type 0} (f : ℕ → ℕ → T) where
  pub zip-placed : (n : ℕ) (qs : List ℕ) →
      map (λ (p : ℕ × ℕ). f p.0 p.1) (zip (range_with_len n (length qs)) qs) ≡ placed f n qs
  zip-placed n [] = refl
  zip-placed n (q ∷ qs) = ap (λ rest. f n q ∷ rest) (zip-placed (n + 1) qs)

  pub length-placed : (n : ℕ) (qs : List ℕ) → length (placed f n qs) ≡ length qs
  length-placed n [] = refl
  length-placed n (q ∷ qs) = ap suc (length-placed (n + 1) qs)

  pub placed-read : (n : ℕ) (qs : List ℕ) (i : ℕ) (d : T) (q : ℕ) → i < length qs →
      slice_index_or (placed f n qs) i d ≡ f (n + i) (slice_index_or qs i q)
  placed-read n [] i d q lt = absurd (omega arith)
  placed-read n (r ∷ qs) zero d q lt = let same : n ≡ n + zero = omega arith in ap (λ m. f m r) same
  placed-read n (r ∷ qs) (suc i) d q lt =
      let same : n + 1 + i ≡ n + suc i = omega arith in
      placed-read (n + 1) qs i d q (omega arith) ∙ ap (λ m. f m (slice_index_or qs i q)) same

-- entries beside one another
pub pairwise-placed : {A B C : Type 0} (h : A → B → C) (f : ℕ → ℕ → A) (g : ℕ → ℕ → B) (n : ℕ)
    (qs : List ℕ) →
    pairwise h (placed f n qs) (placed g n qs) ≡ placed (λ j q. h (f j q) (g j q)) n qs
pairwise-placed h f g n [] = refl
pairwise-placed h f g n (q ∷ qs) =
    ap (λ rest. h (f n q) (g n q) ∷ rest) (pairwise-placed h f g (n + 1) qs)

pub map-placed : {A B : Type 0} (h : A → B) (f : ℕ → ℕ → A) (n : ℕ) (qs : List ℕ) →
    map h (placed f n qs) ≡ placed (λ j q. h (f j q)) n qs
map-placed h f n [] = refl
map-placed h f n (q ∷ qs) = ap (λ rest. h (f n q) ∷ rest) (map-placed h f (n + 1) qs)

-- the queries themselves, and what depends on them alone
pub itself-placed : {T : Type 0} (f : ℕ → T) (n : ℕ) (qs : List ℕ) →
    map f qs ≡ placed (λ j q. f q) n qs
itself-placed f n [] = refl
itself-placed f n (q ∷ qs) = ap (λ rest. f q ∷ rest) (itself-placed f (n + 1) qs)

-- entries that are the same at each place
pub same-placed : {T : Type 0} (f g : ℕ → ℕ → T) (n : ℕ) (qs : List ℕ) →
    ((i d : ℕ) → i < length qs → f (n + i) (slice_index_or qs i d)
    ≡ g (n + i) (slice_index_or qs i d)) → placed f n qs ≡ placed g n qs
same-placed f g n [] same = refl
same-placed f g n (q ∷ qs) same =
    let here : n + zero ≡ n = omega arith in
    let first : f n q ≡ g n q = ap (λ m. f m q) (sym here) ∙ same 0 0 (omega arith)
    ∙ ap (λ m. g m q) here in
    let rest : (i d : ℕ) → i < length qs →
    f (n + 1 + i) (slice_index_or qs i d) ≡ g (n + 1 + i) (slice_index_or qs i d) =
    λ i d lt. let m : n + suc i ≡ n + 1 + i = omega arith in
    ap (λ m. f m (slice_index_or qs i d)) (sym m) ∙ same (suc i) d (omega arith)
    ∙ ap (λ m. g m (slice_index_or qs i d)) m in
    ap (λ t. t ∷ placed f (n + 1) qs) first
    ∙ ap (λ ts. g n q ∷ ts) (same-placed f g (n + 1) qs rest)

-- a list that has an entry for each query
pub listed-placed : {T : Type 0} (xs : List T) (d : T) (qs : List ℕ) → length xs ≡ length qs →
    xs ≡ placed (λ j q. slice_index_or xs j d) 0 qs
listed-placed {T} xs d qs count =
    from xs qs 0 xs count (λ i. let same : i ≡ 0 + i = omega arith in
    ap (λ m. slice_index_or xs m d) same)
  where
    from : (ys : List T) (rs : List ℕ) (n : ℕ) (all : List T) → length ys ≡ length rs →
        ((i : ℕ) → slice_index_or ys i d ≡ slice_index_or all (n + i) d) →
        ys ≡ placed (λ j q. slice_index_or all j d) n rs
    from [] [] n all e same = refl
    from [] (r ∷ rs) n all e same = absurd (omega (arith, e))
    from (y ∷ ys) [] n all e same = absurd (omega (arith, e))
    from (y ∷ ys) (r ∷ rs) n all e same =
        let here : n + zero ≡ n = omega arith in
        let rest : (i : ℕ) → slice_index_or ys i d ≡ slice_index_or all (n + 1 + i) d =
        λ i. let m : n + suc i ≡ n + 1 + i = omega arith in
        same (suc i) ∙ ap (λ m. slice_index_or all m d) m in
        ap (λ t. t ∷ ys) (same 0 ∙ ap (λ m. slice_index_or all m d) here)
        ∙ ap (λ ts. slice_index_or all n d ∷ ts)
        (from ys rs (n + 1) all (omega (arith, e)) rest)
