-- The digests of a proof that is made of a tree are found at their positions.
use Rattle.std.specs.Prelude.{◌≡◌, ℕ, ◌+◌, ◌-◌, ◌^◌, ◌<◌, ◌≤◌, ◌==◌, ◌||◌, Bool, true, false, List}
use Rattle.std.specs.Prelude.{[], ◌∷◌, ◌++◌, length, map, filter, drop, if◌then◌else◌}
use Rattle.std.specs.List.{range_with_len, flat_map}
use Rattle.std.proofs.Common.{zero, suc, refl, sym, ap, ◌∙◌, arith, ⊎_elim, length-append}
use Rattle.std.proofs.Common.{append-nil}
use Rattle.std.proofs.Math.Bool.{or-true}
use Rattle.std.proofs.Math.Seq.{drop-append_seam}
use Rattle.std.proofs.lemmas.List.{length-map}
use Rattle.std.proofs.lemmas.Bool.{eq-eqb, ne_eqb, cases_eq}
use Rattle.std.proofs.lemmas.Grind.{flat_map-append}
use Rattle.circle_merkle.specs.Tree.{is_taken, taken, taken_below, at_place_of, given, proof_of}
use Rattle.circle_merkle.proofs.Ascending.{has}

-- a range in two parts
range-split : (a m n : ℕ) → range_with_len a (m + n) ≡ range_with_len a m
    ++ range_with_len (a + m) n
range-split a zero n =
    let e : 0 + n ≡ n = omega arith in let b : a ≡ a + 0 = omega arith in ap (range_with_len a) e
    ∙ ap (λ b. range_with_len b n) b
range-split a (suc m) n =
    let e : suc m + n ≡ suc (m + n) = omega arith in
    let b : a + 1 + m ≡ a + suc m = omega arith in
    ap (range_with_len a) e
    ∙ ap (λ xs. a ∷ xs)
    (range-split (a + 1) m n ∙ ap (λ b. range_with_len (a + 1) m ++ range_with_len b n) b)

module _ (at : ℕ → ℕ → List ℕ) (indices : List ℕ) (levels : ℕ) where
  abbrev pub piece : ℕ → List (List ℕ)
  piece level = map (at level) (taken indices levels level)

  pub proof-more : (count : ℕ) → proof_of at indices levels (suc count)
      ≡ proof_of at indices levels count ++ piece count
  proof-more count =
      let e : suc count ≡ count + 1 = omega arith in
      let z : 0 + count ≡ count = omega arith in
      ap (λ n. flat_map piece (range_with_len 0 n)) e ∙ ap (flat_map piece) (range-split 0 count 1)
      ∙ flat_map-append piece (range_with_len 0 count) (range_with_len (0 + count) 1)
      ∙ ap (λ b. flat_map piece (range_with_len 0 count) ++ flat_map piece (range_with_len b 1)) z
      ∙ ap (λ d. flat_map piece (range_with_len 0 count) ++ d) (append-nil (piece count))

  -- how many digests the lower levels have
  pub length-proof : (count : ℕ) → length (proof_of at indices levels count)
      ≡ taken_below indices levels count
  length-proof zero = refl
  length-proof (suc count) =
      ap length (proof-more count) ∙ length-append (proof_of at indices levels count) (piece count)
      ∙ ap (λ n. n + length (piece count)) (length-proof count)
      ∙ ap (λ n. taken_below indices levels count + n)
      (length-map (taken indices levels count) (at count))

  -- the digests from a level on
  pub drop-proof : (level : ℕ) → level < levels →
      drop (taken_below indices levels level) (proof_of at indices levels levels) ≡ piece level
      ++ flat_map piece (range_with_len (level + 1) (levels - level - 1))
  drop-proof level h =
      let e : levels ≡ level + suc (levels - level - 1) = omega arith in
      let z : 0 + level ≡ level = omega arith in
      ap (λ n. drop (taken_below indices levels level) (flat_map piece (range_with_len 0 n))) e
      ∙ ap (λ r. drop (taken_below indices levels level) (flat_map piece r))
      (range-split 0 level (suc (levels - level - 1)))
      ∙ ap (drop (taken_below indices levels level))
      (flat_map-append piece (range_with_len 0 level)
      (range_with_len (0 + level) (suc (levels - level - 1))))
      ∙ ap
      (λ n. drop n (proof_of at indices levels level
      ++ flat_map piece (range_with_len (0 + level) (suc (levels - level - 1)))))
      (sym (length-proof level))
      ∙ drop-append_seam (proof_of at indices levels level)
      (flat_map piece (range_with_len (0 + level) (suc (levels - level - 1))))
      ∙ ap (λ b. flat_map piece (range_with_len b (suc (levels - level - 1)))) z

-- what stands at the first place of an element is the element's image
at_place_of-map : (at : ℕ → List ℕ) (q : ℕ) (places : List ℕ) (rest : List (List ℕ)) →
    has q places ≡ true → at_place_of q places (map at places ++ rest) ≡ at q
at_place_of-map at q [] rest h = absurd (cc)
at_place_of-map at q (p ∷ places) rest h =
    ⊎_elim
    (λ e. ap (λ b. if b then at p else at_place_of q places (map at places ++ rest)) (eq-eqb p q e)
    ∙ ap at e)
    (λ ne.
    let later : has q places ≡ true = sym (ap (λ b. b || has q places) (ne_eqb p q ne)) ∙ h in
    ap (λ b. if b then at p else at_place_of q places (map at places ++ rest)) (ne_eqb p q ne)
    ∙ at_place_of-map at q places rest later)
    (cases_eq p q)

-- an element of a range that passes is among those that pass
has-filter : (p : ℕ → Bool) (q a n : ℕ) → p q ≡ true → a ≤ q → q < a + n →
    has q (filter p (range_with_len a n)) ≡ true
has-filter p q a zero pass low high = absurd (omega arith)
has-filter p q a (suc n) pass low high =
    ⊎_elim
    (λ e.
    let here : p a ≡ true = ap p e ∙ pass in
    ap
    (λ b. has q
    (if b then a ∷ filter p (range_with_len (a + 1) n) else filter p
    (range_with_len (a + 1) n))) here
    ∙ ap (λ b. b || has q (filter p (range_with_len (a + 1) n))) (eq-eqb a q e))
    (λ ne. has-cond (p a) (filter p (range_with_len (a + 1) n))
    (has-filter p q (a + 1) n pass (omega arith) (omega arith)))
    (cases_eq a q)
  where
    has-cond : (t : Bool) (xs : List ℕ) → has q xs ≡ true → has q (if t then a ∷ xs else xs) ≡ true
    has-cond true xs h = ap (λ b. (a == q) || b) h ∙ or-true (a == q)
    has-cond false xs h = h

-- the digest that a proof made of a tree gives for a taken position is the tree's
pub given-proof : (at : ℕ → ℕ → List ℕ) (indices : List ℕ) (levels level q : ℕ) → level < levels →
    is_taken indices level q ≡ true → q < 2 ^ (levels - level) →
    given indices levels (proof_of at indices levels levels) level q ≡ at level q
given-proof at indices levels level q h t lt =
    ap (at_place_of q (taken indices levels level)) (drop-proof at indices levels level h)
    ∙ at_place_of-map (at level) q (taken indices levels level)
    (flat_map (piece at indices levels) (range_with_len (level + 1) (levels - level - 1)))
    (has-filter (is_taken indices level) q 0 (2 ^ (levels - level)) t (omega arith) (omega arith))
