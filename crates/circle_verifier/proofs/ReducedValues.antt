-- The reduced codewords at the queries, and what they are apart from.
use Rattle.std.specs.Prelude.{◌≡◌, ℕ, ◌+◌, ◌<◌, ◌≤◌, ◌==◌, if◌then◌else◌, Bool, true, false, List}
use Rattle.std.specs.Prelude.{[], ◌∷◌, length, map, zip, All, slice_index_or}
use Rattle.std.specs.List.{filter, range_with_len}
use Rattle.std.specs.declared.result.Result.{Result}
use Rattle.std.specs.Result.{IsErrAnd, IfErr}
use Rattle.std.proofs.Common.{zero, suc, refl, sym, ◌∙◌, ap, subst, arith, Ok, Err}
use Rattle.std.proofs.Math.Nat.{le-max_left, le-max_right}
use Rattle.std.proofs.lemmas.Bool.{eq-eqb, eqb-true}
use Rattle.std.proofs.lemmas.List.{length-map, get_or-map, get_or_default, ext_get_or}
use Rattle.std.proofs.lemmas.List.Elements.{All-head, All-tail, filter_passes, All-filter}
use Rattle.std.proofs.lemmas.List.Folds.{list_any-from_Any, Any-from_list_any}
use Rattle.std.proofs.lemmas.List.FromFn.{get_or-range_with_len, length-range_with_len}
use Rattle.circle_commit.specs.declared.params.FriParameters.{FriParameters}
use Rattle.circle_field.specs.Circle.{Coordinates, lifted}
use Rattle.circle_commit.specs.Mmcs.{greatest}
use Rattle.circle_folding.specs.Queries.{query_point}
use Rattle.circle_relation.specs.Statement.{MatrixClaim, log_height, log_max_height}
use Rattle.circle_relation.specs.Accepts.{Fields, Run, matrices, top, is_claimed, claimed_heights}
use Rattle.circle_relation.specs.Accepts.{at_queries, point_among, reduced_at, claims_of, AreApart}
use Rattle.circle_relation.proofs.AtQueries.{placed, zip-placed, length-placed, placed-read}
use Rattle.circle_relation.proofs.AtQueries.{itself-placed}
use Rattle.circle_relation.specs.Sums.{reduced, all_claims_at, AreApartAt}

-- what a `?` returns
pub handed_on : {A E : Type 0} (r : Result A E) (e : E) (P : E → Type 0) → IsErrAnd r (λ x. x ≡ e) →
    P e → IfErr r P
handed_on (Ok x) e P h p = tt
handed_on (Err x) e P h p = subst P (sym h) p

-- no height is above the greatest
below-greatest : (ns : List ℕ) (i d : ℕ) → i < length ns → slice_index_or ns i d ≤ greatest ns
below-greatest [] i d lt = absurd (omega (arith, lt))
below-greatest (n ∷ ns) zero d lt = le-max_left n (greatest ns)
below-greatest (n ∷ ns) (suc i) d lt =
    let rest = below-greatest ns i d (omega (arith, lt)) in
    let more = le-max_right n (greatest ns) in
    omega (arith, rest, more)

below-top : {E : Type 0} (blowup : ℕ) (ms : List (MatrixClaim E)) →
    All (λ m. log_height blowup m ≤ log_max_height blowup ms) ms
below-top blowup ms = λ i d lt.
    subst (λ n. n ≤ log_max_height blowup ms) (get_or-map (log_height blowup) ms i d 0 lt)
    (below-greatest (map (log_height blowup) ms) i 0
    (omega (arith, lt, length-map ms (log_height blowup))))

-- what holds of all that pass a test
rest-passes : {T : Type 0} (P : T → Type 0) (x : T) (ys : List T) (b : Bool) →
    All P (if b then x ∷ ys else ys) → All P ys
rest-passes P x ys true all = All-tail P x ys all
rest-passes P x ys false all = all

filter-there : {T : Type 0} (p : T → Bool) (P : T → Type 0) (xs : List T) → All P (filter p xs) →
    (i : ℕ) (d : T) → i < length xs → p (slice_index_or xs i d) ≡ true → P (slice_index_or xs i d)
filter-there p P [] all i d lt passes = absurd (omega (arith, lt))
filter-there p P (x ∷ xs) all zero d lt passes =
    All-head P x (filter p xs)
    (subst (λ b. All P (if b then x ∷ filter p xs else filter p xs)) passes all)
filter-there p P (x ∷ xs) all (suc i) d lt passes =
    filter-there p P xs (rest-passes P x (filter p xs) (p x) all) i d (omega (arith, lt)) passes

module _ {F E M Com InputCom InputProof WordProof : Type 0} (fields : Fields F E)
    (params : FriParameters M) (r : Run F E Com InputCom InputProof WordProof) (h : ℕ) where
  abbrev point : ℕ → Coordinates F
  point = query_point fields.field fields.gen h (top fields params r)

  -- the points of the queries
  pub points-at : at_queries fields params r (λ j q. point_among fields params r j q h)
      ≡ map point r.drawn.queries
  points-at = zip-placed (λ j q. point_among fields params r j q h) 0 r.drawn.queries
      ∙ sym (itself-placed point 0 r.drawn.queries)

  -- the sums that are computed there
  pub sums-at : (sums : List E) (points : List (Coordinates F)) (none : Coordinates F) →
      length sums ≡ length r.drawn.queries → points ≡ map point r.drawn.queries
      → ((j : ℕ) → j < length sums → slice_index_or sums j fields.extension.zero
      ≡ reduced fields.extension fields.embed r.drawn.alpha 0 (slice_index_or points j none)
      (all_claims_at params.log_blowup h (zip r.batches r.proof.inputs) j))
      →
      sums
      ≡ at_queries fields params r
      (λ j q. reduced_at fields params r (point_among fields params r j q h)
      (claims_of fields params r h j))
  sums-at sums points none count are is =
      let qs = r.drawn.queries in
      let f = λ (j q : ℕ). reduced_at fields params r (point_among fields params r j q h)
      (claims_of fields params r h j) in
      ext_get_or fields.extension.zero sums (placed f 0 qs) (count ∙ sym (length-placed f 0 qs))
      (λ j lt.
      let within : j < length qs = omega (arith, lt, count) in
      let here : 0 + j ≡ j = omega arith in
      is j lt
      ∙ ap
      (λ ps. reduced fields.extension fields.embed r.drawn.alpha 0 (slice_index_or ps j none)
      (claims_of fields params r h j)) are
      ∙ ap
      (λ x. reduced fields.extension fields.embed r.drawn.alpha 0 x
      (claims_of fields params r h j)) (get_or-map point qs j 0 none within)
      ∙ ap (λ n. f n (slice_index_or qs j 0)) (sym here)
      ∙ sym (placed-read f 0 qs j fields.extension.zero 0 within))
      ∙ sym (zip-placed f 0 qs)

  -- claims that are apart from all queries are so at each height
  pub apart-at : AreApart fields params r →
      AreApartAt fields.extension fields.embed params.log_blowup h (map point r.drawn.queries)
      (matrices fields params r)
  apart-at apart = λ i m lt same k c claimed j x within meets.
      let qs = r.drawn.queries in
      let inside : j < length qs = omega (arith, within, length-map qs point) in
      let high =
      λ (n : ℕ). lifted fields.embed
      (query_point fields.field fields.gen n (top fields params r) (slice_index_or qs j 0)) in
      apart j 0 inside i m lt k c claimed
      (ap high same ∙ ap (lifted fields.embed) (sym (get_or-map point qs j 0 x inside)) ∙ meets)

module _ {F E M Com InputCom InputProof WordProof : Type 0} (fields : Fields F E)
    (params : FriParameters M) (r : Run F E Com InputCom InputProof WordProof) where
  -- and claims that are so at each height from all queries
  pub apart-all : All
      (λ h. AreApartAt fields.extension fields.embed params.log_blowup h
      (map (point fields params r h) r.drawn.queries) (matrices fields params r))
      (claimed_heights fields params r) → AreApart fields params r
  apart-all all = λ j q inside i m lt k c claimed meets.
      let qs = r.drawn.queries in
      let matrix = slice_index_or (matrices fields params r) i m in
      let h = log_height params.log_blowup matrix in
      let low : h ≤ top fields params r =
      below-top params.log_blowup (matrices fields params r) i m lt in
      let range = range_with_len 0 (suc (top fields params r)) in
      let none : 0 + h ≡ h = omega arith in
      let place : slice_index_or range h 0 ≡ h =
      get_or-range_with_len 0 (suc (top fields params r)) h 0 (omega (arith, low)) ∙ none in
      let test : is_claimed fields params r h ≡ true =
      list_any-from_Any (λ n. log_height params.log_blowup n == h) (matrices fields params r)
      (i, matrix, lt, get_or_default (matrices fields params r) i matrix m lt, eq-eqb h h refl) in
      let P = λ (h : ℕ). AreApartAt fields.extension fields.embed params.log_blowup h
      (map (point fields params r h) qs) (matrices fields params r) in
      let here : P h =
      subst P place
      (filter-there (is_claimed fields params r) P range all h 0
      (omega (arith, low, length-range_with_len 0 (suc (top fields params r))))
      (ap (is_claimed fields params r) place ∙ test)) in
      here i m lt refl k c claimed j (point fields params r h q)
      (omega (arith, inside, length-map qs (point fields params r h)))
      (ap (lifted fields.embed)
      (get_or-map (point fields params r h) qs j q (point fields params r h q) inside) ∙ meets)

  -- the heights that are claimed are at least 1, and at most the greatest
  pub heights-fit : All (λ m. 1 ≤ m.log_n) (matrices fields params r) →
      All (λ h. (1 ≤ h) × (h ≤ top fields params r)) (claimed_heights fields params r)
  heights-fit large = λ i d lt.
      let range = range_with_len 0 (suc (top fields params r)) in
      let claimed =
      Any-from_list_any (λ n. log_height params.log_blowup n ==
      slice_index_or (claimed_heights fields params r) i d) (matrices fields params r)
      (filter_passes (is_claimed fields params r) range i d lt) in
      let same =
      eqb-true (log_height params.log_blowup claimed.1)
      (slice_index_or (claimed_heights fields params r) i d) claimed.4 in
      let rows = large claimed.0 claimed.1 claimed.2 in
      let rows_same = ap (λ m. m.log_n) claimed.3 in
      let within : slice_index_or (claimed_heights fields params r) i d ≤ top fields params r =
      All-filter (is_claimed fields params r) (λ h. h ≤ top fields params r) range
      (λ k e inside. let at =
      get_or-range_with_len 0 (suc (top fields params r)) k e
      (omega (arith, inside, length-range_with_len 0 (suc (top fields params r)))) in
      omega (arith, at, inside, length-range_with_len 0 (suc (top fields params r)))) i d lt in
      (omega (arith, same, rows, rows_same), within)
