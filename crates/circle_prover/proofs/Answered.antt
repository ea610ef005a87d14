-- What is known of requested matrices, one after another.
use Rattle.std.specs.Prelude.{◌≡◌, ℕ, ◌^◌, ◌<◌, ◌≤◌, List, [], ◌∷◌, ◌++◌, length, map, flat_map}
use Rattle.std.specs.Prelude.{zip, All, Result, Ok, Err, IfOk, IsErrAnd, MatchResult}
use Rattle.std.specs.Prelude.{slice_index_or}
use Rattle.std.specs.List.{AllByRecursion, AllZip}
use Rattle.std.proofs.Common.{sym, ◌∙◌, ap, subst, arith}
use Rattle.std.proofs.lemmas.List.{get_or-map, length-append, length-map}
use Rattle.std.proofs.lemmas.List.Elements.{All-from_recursion, recursion_from_All}
use Rattle.circle_commit.specs.Mmcs.{greatest, max_height}
use Rattle.circle_commit.specs.Pcs.{Openings}
use Rattle.circle_commit.specs.RowMajorMatrix.{height_of}
use Rattle.circle_commit.specs.declared.matrix.RowMajorMatrix.{RowMajorMatrix}
use Rattle.circle_commit.specs.declared.pcs.OpeningRequest.{OpeningRequest}
use Rattle.circle_relation.specs.Accepts.{Fields}
use Rattle.circle_codewords.specs.Words.{Committed}
use Rattle.circle_codewords.specs.Requests.{AreAnswers, AreHeights, AreValuesOf, IsFit, IsOpenable}
use Rattle.circle_codewords.specs.Requests.{all_committed, batch_committed, log_of, points_of}
use Rattle.circle_prover.proofs.Held.{heights-listed}
use Rattle.circle_prover.proofs.Tops.{greatest-there}

-- what is known of a result twice
pub if_ok2 : {A E : Type 0} (r : Result A E) (P Q R : A → Type 0) → ((a : A) → P a → Q a → R a) →
    IfOk r P → IfOk r Q → IfOk r R
if_ok2 (Ok a) P Q R f p q = f a p q
if_ok2 (Err e) P Q R f p q = tt

-- what is known of a result in either case
pub matched-both : {A E : Type 0} (r : Result A E) (P Q : A → Type 0) (R S : E → Type 0) →
    ((a : A) → P a → Q a) → ((e : E) → R e → S e) → MatchResult r P R → MatchResult r Q S
matched-both (Ok a) P Q R S f g known = f a known
matched-both (Err e) P Q R S f g known = g e known

pub matched-ok : {A E : Type 0} (r : Result A E) (P : A → Type 0) (R : E → Type 0) →
    MatchResult r P R → IfOk r P
matched-ok (Ok a) P R known = known
matched-ok (Err e) P R known = tt

pub matched-err : {A E : Type 0} (r : Result A E) (e : E) (P : A → Type 0) (R : E → Type 0) →
    IsErrAnd r (λ x. x ≡ e) → R e → MatchResult r P R
matched-err (Ok a) e P R same known = elim same [ ]
matched-err (Err x) e P R same known = subst R (sym same) known

both-known : {A : Type 0} (P : A → Type 0) (xs ys : List A) → AllByRecursion P xs →
    AllByRecursion P ys → AllByRecursion P (xs ++ ys)
both-known P [] ys p q = q
both-known P (x ∷ xs) ys p q = (p.0, both-known P xs ys p.1 q)

module _ {F E : Type 0} (k : Fields F E) (blowup : ℕ) (P : ℕ → Type 0) where
  batch-known : (ms : List (RowMajorMatrix F)) (points : List (List E))
      (values : List (List (List E))) → AllByRecursion (λ m. P (log_of (height_of m))) ms →
      AllByRecursion (λ c. P c.log_height) (batch_committed k blowup ms points values)
  batch-known [] points values known = tt
  batch-known (m ∷ ms) [] values known = tt
  batch-known (m ∷ ms) (t ∷ points) [] known = tt
  batch-known (m ∷ ms) (t ∷ points) (v ∷ values) known =
      (known.0, batch-known ms points values known.1)

  all-known : {D : Type 0} (kept : D → List (RowMajorMatrix F))
      (requests : List (OpeningRequest D E)) (values : Openings E) →
      AllByRecursion (λ r. All (λ m. P (log_of (height_of m))) (kept r.prover_data.now)) requests
      →
      AllByRecursion (λ c. P c.log_height)
      (flat_map (λ b. b) (all_committed kept k blowup requests values))
  all-known kept [] values known = tt
  all-known kept (r ∷ requests) [] known = tt
  all-known kept (r ∷ requests) (v ∷ values) known =
      both-known (λ (c : Committed F E). P c.log_height)
      (batch_committed k blowup (kept r.prover_data.now) (points_of kept r) v)
      (flat_map (λ b. b) (all_committed kept k blowup requests values))
      (batch-known (kept r.prover_data.now) (points_of kept r) v
      (recursion_from_All (λ m. P (log_of (height_of m))) (kept r.prover_data.now) known.0))
      (all-known kept requests values known.1)

  -- what is known of the heights of all requested matrices
  pub heights-known : {D : Type 0} (kept : D → List (RowMajorMatrix F))
      (requests : List (OpeningRequest D E)) (values : Openings E) →
      All (λ r. All (λ m. P (log_of (height_of m))) (kept r.prover_data.now)) requests
      → All (λ c. P c.log_height) (flat_map (λ b. b) (all_committed kept k blowup requests values))
  heights-known kept requests values known =
      All-from_recursion (λ (c : Committed F E). P c.log_height)
      (flat_map (λ b. b) (all_committed kept k blowup requests values))
      (all-known kept requests values
      (recursion_from_All
      (λ (r : OpeningRequest _ E). All (λ m. P (log_of (height_of m))) (kept r.prover_data.now))
      requests known))

module _ {F E : Type 0} (k : Fields F E) (blowup : ℕ) where
  batch-some : (ms : List (RowMajorMatrix F)) (points : List (List E))
      (values : List (List (List E))) →
      AllZip (λ m rest. AreValuesOf k blowup m rest.0 rest.1) ms (zip points values) →
      1 ≤ length ms → 1 ≤ length (batch_committed k blowup ms points values)
  batch-some [] points values are some = absurd (omega (arith, some))
  batch-some (m ∷ ms) [] values are some = absurd are
  batch-some (m ∷ ms) (t ∷ points) [] are some = absurd are
  batch-some (m ∷ ms) (t ∷ points) (v ∷ values) are some = omega arith

  -- some matrix is requested
  pub all-some : {D : Type 0} (kept : D → List (RowMajorMatrix F))
      (requests : List (OpeningRequest D E)) (values : Openings E) →
      AllZip (AreAnswers kept k blowup) requests values → 1 ≤ length requests
      → All (λ r. 1 ≤ length (kept r.prover_data.now)) requests →
      1 ≤ length (flat_map (λ b. b) (all_committed kept k blowup requests values))
  all-some kept [] values are some known = absurd (omega (arith, some))
  all-some kept (r ∷ requests) [] are some known = absurd are
  all-some kept (r ∷ requests) (v ∷ values) are some known =
      let here = batch-some (kept r.prover_data.now) (points_of kept r) v are.0.0
      (known 0 r (omega arith)) in
      omega (
        arith,
        here,
        length-append (batch_committed k blowup (kept r.prover_data.now) (points_of kept r) v)
            (flat_map (λ b. b) (all_committed kept k blowup requests values)),
      )

-- what a relation of two lists says of the first
left-known : {A B : Type 0} (R : A → B → Type 0) (P : A → Type 0) →
    ((a : A) (b : B) → R a b → P a) → (xs : List A) (ys : List B) → AllZip R xs ys →
    AllByRecursion P xs
left-known R P f [] ys are = tt
left-known R P f (x ∷ xs) [] are = absurd are
left-known R P f (x ∷ xs) (y ∷ ys) are = (f x y are.0, left-known R P f xs ys are.1)

-- what is known of each requested matrix
pub fit-known : {D F E : Type 0} (kept : D → List (RowMajorMatrix F)) (k : Fields F E)
    (blowup two_adicity : ℕ) (P : RowMajorMatrix F → Type 0) →
    ((m : RowMajorMatrix F) (points : List E) → IsOpenable k two_adicity blowup m points → P m) →
    (requests : List (OpeningRequest D E)) → All (IsFit kept k blowup two_adicity) requests →
    All (λ r. All P (kept r.prover_data.now)) requests
fit-known kept k blowup two_adicity P f requests fit = λ i r lt.
    let q = slice_index_or requests i r in
    All-from_recursion P (kept q.prover_data.now)
    (left-known (IsOpenable k two_adicity blowup) P f (kept q.prover_data.now)
    (points_of kept q) (fit i r lt))

first-known : {A : Type 0} (P : A → Type 0) (xs ys : List A) → AllByRecursion P (xs ++ ys) →
    AllByRecursion P xs
first-known P [] ys known = tt
first-known P (x ∷ xs) ys known = (known.0, first-known P xs ys known.1)

second-known : {A : Type 0} (P : A → Type 0) (xs ys : List A) → AllByRecursion P (xs ++ ys) →
    AllByRecursion P ys
second-known P [] ys known = known
second-known P (x ∷ xs) ys known = second-known P xs ys known.1

module _ {F E : Type 0} (k : Fields F E) (blowup : ℕ) (P : ℕ → Type 0) where
  batch-back : (ms : List (RowMajorMatrix F)) (points : List (List E))
      (values : List (List (List E))) →
      AllZip (λ m rest. AreValuesOf k blowup m rest.0 rest.1) ms (zip points values) →
      AllByRecursion (λ c. P c.log_height) (batch_committed k blowup ms points values)
      → AllByRecursion (λ m. P (log_of (height_of m))) ms
  batch-back [] points values are known = tt
  batch-back (m ∷ ms) [] values are known = absurd are
  batch-back (m ∷ ms) (t ∷ points) [] are known = absurd are
  batch-back (m ∷ ms) (t ∷ points) (v ∷ values) are known =
      (known.0, batch-back ms points values are.1 known.1)

  all-back : {D : Type 0} (kept : D → List (RowMajorMatrix F))
      (requests : List (OpeningRequest D E)) (values : Openings E) →
      AllZip (AreAnswers kept k blowup) requests values →
      AllByRecursion (λ c. P c.log_height)
      (flat_map (λ b. b) (all_committed kept k blowup requests values))
      → AllByRecursion (λ r. All (λ m. P (log_of (height_of m))) (kept r.prover_data.now)) requests
  all-back kept [] values are known = tt
  all-back kept (r ∷ requests) [] are known = absurd are
  all-back kept (r ∷ requests) (v ∷ values) are known =
      let here = batch_committed k blowup (kept r.prover_data.now) (points_of kept r) v in
      let rest = flat_map (λ b. b) (all_committed kept k blowup requests values) in (
        All-from_recursion (λ m. P (log_of (height_of m))) (kept r.prover_data.now)
            (batch-back (kept r.prover_data.now) (points_of kept r) v are.0.0
            (first-known (λ (c : Committed F E). P c.log_height) here rest known)),
        all-back kept requests values are.1
            (second-known (λ (c : Committed F E). P c.log_height) here rest known),
      )

  -- what is known of the height of each opened matrix is known of each requested one
  pub heights-back : {D : Type 0} (kept : D → List (RowMajorMatrix F))
      (requests : List (OpeningRequest D E)) (values : Openings E) →
      AllZip (AreAnswers kept k blowup) requests values →
      All (λ c. P c.log_height) (flat_map (λ b. b) (all_committed kept k blowup requests values))
      → All (λ r. All (λ m. P (log_of (height_of m))) (kept r.prover_data.now)) requests
  heights-back kept requests values are known =
      All-from_recursion
      (λ (r : OpeningRequest _ E). All (λ m. P (log_of (height_of m))) (kept r.prover_data.now))
      requests
      (all-back kept requests values are
      (recursion_from_All (λ (c : Committed F E). P c.log_height)
      (flat_map (λ b. b) (all_committed kept k blowup requests values)) known))

-- the heights of a batch
pub batch-heights : {F : Type 0} (top : ℕ) (ms : List (RowMajorMatrix F)) → 1 ≤ length ms →
    All (λ m. height_of m ≡ 2 ^ log_of (height_of m)) ms →
    All (λ m. log_of (height_of m) ≤ top) ms → AreHeights top ms
batch-heights top [] some powers low = absurd (omega (arith, some))
batch-heights top (m ∷ rest) some powers low =
    let ms = m ∷ rest in
    let there = greatest-there (map height_of ms) (omega (arith, length-map ms height_of)) in
    let within : there.0 < length ms = omega (arith, there.1, length-map ms height_of) in
    let one = slice_index_or ms there.0 m in
    let same : height_of one ≡ max_height ms = sym (get_or-map height_of ms there.0 m 0 within)
    ∙ there.2 ∙ ap greatest (sym (heights-listed ms)) in
    record {
      powers = λ i d lt. (log_of (height_of (slice_index_or ms i d)), powers i d lt);
      power = subst (λ n. n ≡ 2 ^ log_of n) same (powers there.0 m within);
      fits = subst (λ n. log_of n ≤ top) same (low there.0 m within);
    }
