-- What requests to open meet where none of the tests has reason to refuse them.
use Rattle.std.specs.Prelude.{◌≡◌, ◌↔◌, ℕ, ◌+◌, ◌^◌, ◌<◌, ◌≤◌, ◌==◌, Bool, true, false, not, ◌||◌}
use Rattle.std.specs.Prelude.{List, [], ◌∷◌, ◌++◌, length, map, flat_map, zip, All, Ok, Err, Vec}
use Rattle.std.specs.Prelude.{vec_len, nat_lt, slice_index_or, Result, IsErrAnd, MatchResult}
use Rattle.std.specs.List.{AllZip, list_any}
use Rattle.std.specs.declared.alloc.Global.{Global}
use Rattle.std.proofs.Common.{suc, refl, sym, ◌∙◌, ap, arith}
use Rattle.std.proofs.lemmas.Bool.{eqb-true, ltb-false, false≢true}
use Rattle.std.proofs.lemmas.Slice.Zip.{get_or-zip, length-zip}
use Rattle.circle_commit.specs.Matrix.{IsPowerOfTwo}
use Rattle.circle_commit.specs.Mmcs.{HaveHeightsOfPowers}
use Rattle.circle_commit.specs.RowMajorMatrix.{height_of}
use Rattle.circle_commit.specs.declared.matrix.RowMajorMatrix.{RowMajorMatrix}
use Rattle.circle_commit.specs.declared.params.FriParameters.{FriParameters}
use Rattle.circle_commit.specs.declared.pcs.OpeningRequest.{OpeningRequest}
use Rattle.circle_field.specs.Circle.{AreGenerators}
use Rattle.circle_field.specs.Field.{FieldOps, FieldLaws, IsEmbedding}
use Rattle.circle_codewords.specs.Requests.{AreFit, AreRequests, IsFit, IsOpenable, log_of}
use Rattle.circle_relation.specs.declared.error.ProverError.{ProverError}
use Rattle.circle_relation.specs.declared.error.ProverError.TheVariants.{UnfitParameters}
use Rattle.circle_relation.specs.declared.error.ProverError.TheVariants.{MatrixCountMismatch}
use Rattle.circle_relation.specs.declared.error.ProverError.TheVariants.{NoCommittedMatrices}
use Rattle.circle_relation.specs.declared.error.ProverError.TheVariants.{PointAtInfinity}
use Rattle.circle_relation.specs.declared.error.ProverError.TheVariants.{PointOnDomain}
use Rattle.circle_relation.specs.Accepts.{Fields}
use Rattle.circle_prover.specs.Requesting.{height_tests, matrix_tests, HasDomain, IsAtPoints}
use Rattle.circle_prover.specs.Requesting.{has_other_counts, is_infinite, is_unfit, lacks_matrices}
use Rattle.circle_prover.specs.Requesting.{meets_domain, meets_domains, opening_tests}
use Rattle.circle_prover.specs.Requesting.{some_on_domain}
use Rattle.circle_relation.specs.TestsInOrder.{Test, answer}
use Rattle.circle_point.specs.Projective.{is_at_infinity}
use Rattle.circle_relation.proofs.Answering.{each-passes, passing, answer-none, refusing, skipped}
use Rattle.circle_prover.proofs.CommittedHeights.{eqb_positive, height-passed, log_small}
use Rattle.circle_codewords.proofs.Logs.{log_of-power}
use Rattle.circle_prover.proofs.OnDomain.{all-off, none-passes}
use Rattle.circle_relation.proofs.Passed.{AllPass, front_passes, front_refuses, pass-back}
use Rattle.circle_relation.proofs.Passed.{pass-front, passed, passes}

-- neither of two
or-neither : (a b : Bool) → (a || b) ≡ false → (a ≡ false) × (b ≡ false)
or-neither true b is = absurd (false≢true (sym is))
or-neither false b is = (refl, is)

-- numbers that do not differ
not-other : (a b : ℕ) → not (a == b) ≡ false → a ≡ b
not-other a b is =
    let go : (t : Bool) → (a == b) ≡ t → not t ≡ false → a ≡ b = elim [
      | true ↦ λ e z. eqb-true a b e
      | false ↦ λ e z. absurd (false≢true (sym z))
    ] in
    go (a == b) refl is

-- lists of the same length whose items are related place by place
places : {A B C : Type 0} (f : B → C) (R : A → C → Type 0) (xs : List A) (ys : List B) →
    length ys ≡ length xs →
    ((i : ℕ) (x : A) (y : B) → i < length xs → i < length ys →
    R (slice_index_or xs i x) (f (slice_index_or ys i y))) → AllZip R xs (map f ys)
places f R [] [] same each = tt
places f R [] (y ∷ ys) same each = absurd (omega (arith, same))
places f R (x ∷ xs) [] same each = absurd (omega (arith, same))
places f R (x ∷ xs) (y ∷ ys) same each = (
  each 0 x y (omega arith) (omega arith),
  places f R xs ys (omega (arith, same))
      (λ i a b lt lt'. each (suc i) a b (omega (arith, lt)) (omega (arith, lt'))),
)

-- a refusal that is handed on is that of tests
pub refusal-is : {A E : Type 0} (r : Result A E) (e : E) (tested : Result (Unit {0}) E)
    → IsErrAnd r (λ x. x ≡ e) → tested ≡ Err e →
    MatchResult r (λ a. tested ≡ Ok (tt {0})) (λ x. tested ≡ Err x)
refusal-is (Ok a) e tested same is = elim same [ ]
refusal-is (Err x) e tested same is = is ∙ ap Err (sym same)

-- parameters that are not refused
pub fit-parameters : {M : Type 0} (p : FriParameters M) → is_unfit p ≡ false → AreFit p
fit-parameters p is =
    let queries = or-neither (p.num_queries == 0) _ is in
    let blowup = or-neither (p.log_blowup == 0) _ queries.1 in
    let arity = or-neither (not (p.max_log_arity == 1)) _ blowup.1 in
    let batch = or-neither (nat_lt 30 p.batch_proof_of_work_bits) _ arity.1 in
    let commit = or-neither (nat_lt 30 p.commit_proof_of_work_bits) _ batch.1 in record {
      batch_work = ltb-false 30 p.batch_proof_of_work_bits batch.0;
      commit_work = ltb-false 30 p.commit_proof_of_work_bits commit.0;
      query_work = ltb-false 30 p.query_proof_of_work_bits commit.1;
      queries = eqb_positive p.num_queries queries.0;
      blowup = eqb_positive p.log_blowup blowup.0;
    }

pub fit-arity : {M : Type 0} (p : FriParameters M) → is_unfit p ≡ false → p.max_log_arity ≡ 1
fit-arity p is =
    let queries = or-neither (p.num_queries == 0) _ is in
    let blowup = or-neither (p.log_blowup == 0) _ queries.1 in
    let arity = or-neither (not (p.max_log_arity == 1)) _ blowup.1 in
    not-other p.max_log_arity 1 arity.0

module _ {F M : Type 0} (two : ℕ) (p : FriParameters M) where
  -- a matrix whose height is not refused
  pub record HasHeight (m : RowMajorMatrix F) : Type 0 where
    pub domain : HasDomain two m
    pub tall : p.log_blowup + p.log_final_poly_len + 2 ≤ log_of (height_of m)

  has-height : (m : RowMajorMatrix F) → IsPowerOfTwo (height_of m) →
      answer (height_tests two p (height_of m)) (tt {0}) ≡ Ok (tt {0}) → HasHeight m
  has-height m power ok =
      let x = power.0 in
      let is : log_of (height_of m) ≡ x = ap log_of power.1
      ∙ log_of-power x (let small = log_small m x power.1 in omega (arith, small)) in
      let fits = height-passed two p (height_of m) x (sym power.1) ok in
      let enough = fits.0 in
      let below = fits.1 in record {
        domain = record {
          power = power.1 ∙ ap (λ n. 2 ^ n) (sym is);
          positive = omega (arith, enough, is);
          in_group = omega (arith, below, is);
        };
        tall = omega (arith, enough, is);
      }

  -- and those of several, batch by batch
  pub heights-known : {D E : Type 0} (kept : D → List (RowMajorMatrix F))
      (requests : List (OpeningRequest D E)) →
      All (λ r. HaveHeightsOfPowers (kept r.prover_data.now)) requests →
      answer (flat_map (λ r. matrix_tests two p (kept r.prover_data.now)) requests) (tt {0})
      ≡ Ok (tt {0}) →
      All (λ r. All HasHeight (kept r.prover_data.now)) requests
  heights-known kept requests powers ok = λ i d lt.
      let r = slice_index_or requests i d in
      let ms = kept r.prover_data.now in
      let each = each-passes (λ r. matrix_tests two p (kept r.prover_data.now)) requests ok i d
      lt in
      λ j e lt'.
      has-height (slice_index_or ms j e) (powers i d lt j e lt')
      (each-passes (λ m. height_tests two p (height_of m)) ms each j e lt')

module _ {E : Type 0} (same : E → E → Bool) (law : (a b : E) → (same a b ≡ true) ↔ (a ≡ b))
    (l : FieldOps E) where
  -- requests of which no coordinate is at infinity
  pub points-known : {D : Type 0} (requests : List (OpeningRequest D E)) →
      list_any (is_infinite same l) requests ≡ false → All (IsAtPoints l) requests
  points-known requests none = λ i d lt.
      let r = slice_index_or requests i d in
      let vs = r.points.items in
      let each = none-passes (is_infinite same l) requests none i d lt in
      λ j e lt'.
      let v = slice_index_or vs j e in
      let all = none-passes (λ (v : Vec E Global). list_any (is_at_infinity same l) v.items) vs each
      j e lt' in
      λ n f lt''.
      let t = slice_index_or v.items n f in
      λ bad. false≢true (sym (none-passes (is_at_infinity same l) v.items all n f lt'')
      ∙ (law (l.mul t t) (l.neg l.one)).1 bad)

module _ {D F E M : Type 0} (kept : D → List (RowMajorMatrix F))
    (requests : List (OpeningRequest D E)) (two : ℕ) (p : FriParameters M) (k : Fields F E)
    (same : E → E → Bool) where
  abbrev heights_part : List (Test ProverError)
  heights_part = flat_map (λ r. matrix_tests two p (kept r.prover_data.now)) requests

  abbrev points_part : List (Test ProverError)
  points_part = (list_any (is_infinite same k.extension) requests, PointAtInfinity)
      ∷ (meets_domains kept requests k same, PointOnDomain) ∷ []

  abbrev all_tests : List (Test ProverError)
  all_tests = opening_tests kept requests two p k same

  tests-are : all_tests ≡ (is_unfit p, UnfitParameters)
      ∷ (lacks_matrices kept requests, NoCommittedMatrices)
      ∷ (has_other_counts kept requests, MatrixCountMismatch) ∷ (heights_part ++ points_part)
  unfolding opening_tests
  tests-are = refl

  pub unfit-refused : is_unfit p ≡ true → answer all_tests (tt {0}) ≡ Err UnfitParameters
  unfit-refused some = ap (λ ts. answer {A = Unit {0}} ts (tt {0})) tests-are
      ∙ refusing _ _ (tt {0}) some

  module _ (fit : is_unfit p ≡ false) where
    pub lacking-refused : lacks_matrices kept requests ≡ true → answer all_tests (tt {0})
        ≡ Err NoCommittedMatrices
    lacking-refused some = ap (λ ts. answer {A = Unit {0}} ts (tt {0})) tests-are
        ∙ skipped _ _ (tt {0}) fit ∙ refusing _ _ (tt {0}) some

    module _ (full : lacks_matrices kept requests ≡ false) where
      pub counts-refused : has_other_counts kept requests ≡ true → answer all_tests (tt {0})
          ≡ Err MatrixCountMismatch
      counts-refused some = ap (λ ts. answer {A = Unit {0}} ts (tt {0})) tests-are
          ∙ skipped _ _ (tt {0}) fit ∙ skipped _ _ (tt {0}) full ∙ refusing _ _ (tt {0}) some

      module _ (counts : has_other_counts kept requests ≡ false) where
        to-heights : answer {A = Unit {0}} all_tests (tt {0})
            ≡ answer (heights_part ++ points_part) (tt {0})
        to-heights = ap (λ ts. answer {A = Unit {0}} ts (tt {0})) tests-are
            ∙ skipped _ _ (tt {0}) fit ∙ skipped _ _ (tt {0}) full ∙ skipped _ _ (tt {0}) counts

        pub heights-refused : (e : ProverError) → answer heights_part (tt {0}) ≡ Err e →
            answer all_tests (tt {0}) ≡ Err e
        heights-refused e is = to-heights ∙ front_refuses heights_part points_part (tt {0}) (tt {0})
            e is

        module _ (tall : answer heights_part (tt {0}) ≡ Ok (tt {0})) where
          to-points : answer {A = Unit {0}} all_tests (tt {0}) ≡ answer points_part (tt {0})
          to-points = to-heights ∙ front_passes heights_part points_part (tt {0}) (tt {0}) (tt {0})
              tall

          pub infinity-refused : list_any (is_infinite same k.extension) requests ≡ true →
              answer all_tests (tt {0}) ≡ Err PointAtInfinity
          infinity-refused some = to-points ∙ refusing _ _ (tt {0}) some

          module _ (finite : list_any (is_infinite same k.extension) requests ≡ false) where
            pub domains-refused : meets_domains kept requests k same ≡ true →
                answer all_tests (tt {0}) ≡ Err PointOnDomain
            domains-refused some = to-points ∙ skipped _ _ (tt {0}) finite
                ∙ refusing _ _ (tt {0}) some

            pub none-refused : meets_domains kept requests k same ≡ false →
                answer all_tests (tt {0}) ≡ Ok (tt {0})
            none-refused none = to-points ∙ skipped _ _ (tt {0}) finite ∙ skipped _ _ (tt {0}) none
                ∙ answer-none (tt {0})

  -- none of the tests has reason
  pub record HaveNoReason : Type 0 where
    pub fit : is_unfit p ≡ false
    pub full : lacks_matrices kept requests ≡ false
    pub counts : has_other_counts kept requests ≡ false
    pub tall : answer heights_part (tt {0}) ≡ Ok (tt {0})
    pub finite : list_any (is_infinite same k.extension) requests ≡ false
    pub off : meets_domains kept requests k same ≡ false

  pub no-reason : answer all_tests (tt {0}) ≡ Ok (tt {0}) → HaveNoReason
  unfolding AllPass
  no-reason ok =
      let first = passing _ _ (ap (λ ts. answer {A = Unit {0}} ts (tt {0})) (sym tests-are) ∙ ok) in
      let second = passing _ _ first.1 in
      let third = passing _ _ second.1 in
      let rest = passed (heights_part ++ points_part) (tt {0}) (tt {0}) third.1 in
      let last = pass-back heights_part points_part rest in record {
        fit = first.0;
        full = second.0;
        counts = third.0;
        tall = passes heights_part (tt {0}) (pass-front heights_part points_part rest);
        finite = last.0;
        off = last.1.0;
      }

  -- then the parameters are fit
  pub are-fit : answer all_tests (tt {0}) ≡ Ok (tt {0}) → AreFit p
  are-fit ok = fit-parameters p (no-reason ok).fit

  pub are-binary : answer all_tests (tt {0}) ≡ Ok (tt {0}) → p.max_log_arity ≡ 1
  are-binary ok = fit-arity p (no-reason ok).fit

  module _ (law : (a b : E) → (same a b ≡ true) ↔ (a ≡ b)) (laws : FieldLaws k.field)
      (laws' : FieldLaws k.extension) (embedding : IsEmbedding k.field k.extension k.embed)
      (gens : AreGenerators k.field two k.gen)
      (powers : All (λ r. HaveHeightsOfPowers (kept r.prover_data.now)) requests)
      (ok : answer all_tests (tt {0}) ≡ Ok (tt {0})) where
    -- the matrices of one request can be opened at its points
    openable : (i : ℕ) (d : OpeningRequest D E) → i < length requests →
        IsFit kept k p.log_blowup two (slice_index_or requests i d)
    openable i d lt =
        let known = no-reason ok in
        let r = slice_index_or requests i d in
        let ms = kept r.prover_data.now in
        let vs = r.points.items in
        let tall = heights-known two p kept requests powers known.tall i d lt in
        let finite = points-known same law k.extension requests known.finite i d lt in
        let counted : vec_len r.points ≡ length ms =
        not-other (vec_len r.points) (length ms)
        (none-passes
        (λ (r : OpeningRequest D E). not (vec_len r.points == length (kept r.prover_data.now)))
        requests known.counts i d lt) in
        let off =
        none-passes (λ (r : OpeningRequest D E). meets_domain
        k same (kept r.prover_data.now) r.points.items) requests known.off i d lt in
        places (λ (v : Vec E Global). v.items) (IsOpenable k two p.log_blowup) ms vs
        (sym r.points.ok.0 ∙ counted)
        (λ j x y lm lv.
        let m = slice_index_or ms j x in
        let v = slice_index_or vs j y in
        let this = tall j x lm in
        let domain = this.domain in
        let enough = this.tall in
        let both : j < length (zip ms vs) =
        (let e = length-zip ms vs in omega (arith, e, lm, lv)) in
        let test : RowMajorMatrix F × Vec E Global → Bool = λ asked. some_on_domain
        k same asked.0 asked.1.items in
        let apart : some_on_domain k same m v.items ≡ false =
        ap test (sym (get_or-zip ms vs j (x, y) lm lv))
        ∙ none-passes test (zip ms vs) off j (x, y) both in record {
          power = domain.power;
          blowup = omega (arith, enough);
          in_group = domain.in_group;
          off = all-off k same law laws laws' embedding gens m domain v.items (finite j y lv) apart;
        })

    -- so of all, and each has a matrix
    pub are-requests : AreRequests kept k two p requests
    are-requests =
        let known = no-reason ok in
        let full =
        or-neither (length requests == 0)
        (list_any (λ r. length (kept r.prover_data.now) == 0) requests) known.full in record {
          some = eqb_positive (length requests) full.0;
          matrices = λ i d lt.
              let r = slice_index_or requests i d in
              eqb_positive (length (kept r.prover_data.now))
              (none-passes (λ (r : OpeningRequest D E). length (kept r.prover_data.now) == 0)
              requests full.1 i d lt);
          fit = openable;
          tall =
              λ i d lt j x lm.
              (heights-known two p kept requests powers known.tall i d lt j x lm).tall;
        }
