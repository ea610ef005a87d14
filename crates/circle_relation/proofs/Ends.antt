-- Where the queries end, one by one.
use Rattle.std.specs.Prelude.{◌≡◌, ℕ, ◌+◌, ◌<◌, List, [], ◌∷◌, length, zip, slice_index_or}
use Rattle.std.specs.List.{range_with_len}
use Rattle.std.proofs.Common.{zero, suc, sym, ◌∙◌, ap, subst, refl, arith}
use Rattle.circle_commit.specs.declared.params.FriParameters.{FriParameters}
use Rattle.circle_relation.specs.Accepts.{Fields, Run, rounds, round_value, final_value, ChainsEnd}

-- the queries with their places
pub zip-place : (n : ℕ) (qs : List ℕ) (i q : ℕ) (d : ℕ × ℕ) → i < length qs →
    slice_index_or (zip (range_with_len n (length qs)) qs) i d ≡ (n + i, slice_index_or qs i q)
zip-place n [] i q d lt = absurd (omega arith)
zip-place n (r ∷ qs) zero q d lt = let same : n ≡ n + zero = omega arith in ap (λ m. (m, r)) same
zip-place n (r ∷ qs) (suc i) q d lt =
    let same : n + 1 + i ≡ n + suc i = omega arith in
    zip-place (n + 1) qs i q d (omega arith) ∙ ap (λ m. (m, slice_index_or qs i q)) same

pub length-placed_queries : (n : ℕ) (qs : List ℕ) → length (zip (range_with_len n (length qs)) qs)
    ≡ length qs
length-placed_queries n [] = refl
length-placed_queries n (q ∷ qs) = ap suc (length-placed_queries (n + 1) qs)

module _ {F E M C IC IP WP : Type 0} (fields : Fields F E) (params : FriParameters M)
    (r : Run F E C IC IP WP) where
  -- the query in this place ends in the value of the final polynomial
  abbrev pub EndsAt : ℕ → Type 0
  EndsAt j = let q = slice_index_or r.drawn.queries j 0 in
      round_value fields params r j q (rounds fields params r) ≡ final_value fields params r j q

  pub all-end : ((j : ℕ) → j < length r.drawn.queries → EndsAt j) → ChainsEnd fields params r
  all-end each = λ j d within.
      let qs = r.drawn.queries in
      let lt : j < length qs = omega (arith, within, length-placed_queries 0 qs) in
      let none : 0 + j ≡ j = omega arith in
      let ends = λ (p : ℕ × ℕ). round_value fields params r p.0 p.1 (rounds fields params r)
      ≡ final_value fields params r p.0 p.1 in
      subst ends (sym (zip-place 0 qs j 0 d lt ∙ ap (λ i. (i, slice_index_or qs j 0)) none))
      (each j lt)

  pub each-ends : ChainsEnd fields params r → (j : ℕ) → j < length r.drawn.queries → EndsAt j
  each-ends all j lt =
      let qs = r.drawn.queries in
      let none : 0 + j ≡ j = omega arith in
      let ends = λ (p : ℕ × ℕ). round_value fields params r p.0 p.1 (rounds fields params r)
      ≡ final_value fields params r p.0 p.1 in
      subst ends (zip-place 0 qs j 0 (0, 0) lt ∙ ap (λ i. (i, slice_index_or qs j 0)) none)
      (all j (0, 0) (omega (arith, lt, length-placed_queries 0 qs)))
