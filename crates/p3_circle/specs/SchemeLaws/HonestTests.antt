-- Honest statements are refused by none of the tests before anything is drawn.
use Rattle.std.specs.Prelude.{◌≡◌, ◌↔◌, ℕ, ◌+◌, ◌^◌, ◌<◌, ◌≤◌, ◌==◌, Bool, true, false, not, ◌&&◌}
use Rattle.std.specs.Prelude.{◌||◌, List, [], ◌∷◌, length, map, flat_map, zip, All, Ok, Err}
use Rattle.std.specs.Prelude.{MatchResult, Vec, vec_len, slice_index_or}
use Rattle.std.specs.List.{AllByRecursion, AllZip, list_any}
use Rattle.std.specs.declared.alloc.Global.{Global}
use Rattle.std.specs.Result.{result_and}
use Rattle.std.proofs.Common.{suc, refl, sym, ◌∙◌, ap, subst, arith}
use Rattle.std.proofs.lemmas.Bool.{eq-eqb, ne_eqb, le-ltb, lt-leb}
use Rattle.std.proofs.lemmas.List.Elements.{All-cons, All-from_recursion}
use Rattle.std.proofs.lemmas.List.Folds.{list_any_none}
use Rattle.circle_commit.specs.RowMajorMatrix.{height_of}
use Rattle.circle_commit.specs.declared.matrix.RowMajorMatrix.{RowMajorMatrix}
use Rattle.circle_commit.specs.declared.params.FriParameters.{FriParameters}
use Rattle.circle_commit.specs.declared.pcs.OpeningRequest.{OpeningRequest}
use Rattle.circle_domain.specs.Domain.{log_size, shift_of}
use Rattle.circle_domain.specs.Selectors.{IsFinite}
use Rattle.circle_domain.specs.declared.domain.CircleDomain.{CircleDomain}
use Rattle.circle_field.specs.declared.field.Operations.{Ghosts}
use Rattle.circle_field.specs.Circle.{Coordinates, times}
use Rattle.circle_field.specs.Field.{FieldOps}
use Rattle.circle_field.specs.CircleGroup.{same_coordinates}
use Rattle.circle_codewords.specs.Requests.{AreFit, log_of}
use Rattle.circle_relation.specs.declared.error.ProverError.{ProverError}
use Rattle.circle_relation.specs.declared.error.ProverError.TheVariants.{PointOnDomain}
use Rattle.circle_codewords.proofs.Logs.{log_of-power}
use Rattle.circle_commit.specs.Honest.{IsHonest, requested_points}
use Rattle.circle_relation.specs.Accepts.{Fields}
use Rattle.circle_codewords.specs.Ratios.{points_of_height}
use Rattle.p3_circle.specs.Committing.{AreExtensions, IsExtendable, IsExtension, commit_tests}
use Rattle.p3_circle.specs.Committing.{domain_tests, evaluation_tests, is_degenerate}
use Rattle.circle_prover.specs.Requesting.{height_tests, matrix_tests, is_at, is_infinite, is_unfit}
use Rattle.circle_prover.specs.Requesting.{has_other_counts, lacks_matrices, meets_domain}
use Rattle.circle_prover.specs.Requesting.{meets_domains, opening_tests, some_on_domain}
use Rattle.p3_circle.specs.Honest.{CanBeOpenedAt, IsHonestBatch}
use Rattle.circle_relation.specs.TestsInOrder.{Test, answer}
use Rattle.circle_point.specs.Projective.{is_at_infinity}
use Rattle.p3_circle.specs.Scheme.{IsCommitted, IsFirst, IsFirstFrom}
use Rattle.circle_relation.proofs.Answering.{answer-append, answer-none, skipped}
use Rattle.circle_prover.proofs.CommittedHeights.{height_fits}
use Rattle.circle_prover.proofs.OnDomain.{and-each, never, told}
use Rattle.circle_prover.proofs.Unrefused.{domains-refused, none-refused}

-- none of two
neither : (a b : Bool) → a ≡ false → b ≡ false → (a || b) ≡ false
neither a b first second = ap (λ c. c || b) first ∙ second

-- where no test has reason this holds of a result
pub unrefused : (tests : List (Test ProverError)) (Holds : ProverError → Type 0) (e : ProverError) →
    answer tests (tt {0}) ≡ Ok (tt {0}) → IsFirst tests Holds e → Holds e
unrefused tests Holds e ok first =
    subst (λ a. MatchResult a (λ passed. Holds e) (λ f. e ≡ f)) ok first

pub unrefused-from : {S : Type 0} (tests : List (Test ProverError)) (Holds : ProverError → Type 0)
    (s t : S) (e : ProverError) → answer tests (tt {0}) ≡ Ok (tt {0}) →
    IsFirstFrom tests Holds s t e → Holds e
unrefused-from tests Holds s t e ok first =
    subst (λ a. MatchResult a (λ passed. Holds e) (λ f. (e ≡ f) × (t ≡ s))) ok first

-- and the first that has reason is the result
pub refused-from : {S : Type 0} (tests : List (Test ProverError)) (Holds : ProverError → Type 0)
    (s t : S) (e f : ProverError) → answer tests (tt {0}) ≡ Err f → IsFirstFrom tests Holds s t e →
    e ≡ f
refused-from tests Holds s t e f is first =
    (subst (λ a. MatchResult a (λ passed. Holds e) (λ f. (e ≡ f) × (t ≡ s))) is first).0

-- supported parameters
pub supported : {M : Type 0} (p : FriParameters M) → AreFit p → p.max_log_arity ≡ 1 →
    is_unfit p ≡ false
supported p fit arity =
    let queries = fit.queries in
    let blowup = fit.blowup in
    neither _ _ (ne_eqb p.num_queries 0 (λ e. omega (arith, e, queries)))
    (neither _ _ (ne_eqb p.log_blowup 0 (λ e. omega (arith, e, blowup)))
    (neither _ _ (ap not (eq-eqb p.max_log_arity 1 arity))
    (neither _ _ (le-ltb 30 p.batch_proof_of_work_bits fit.batch_work)
    (neither _ _ (le-ltb 30 p.commit_proof_of_work_bits fit.commit_work)
    (le-ltb 30 p.query_proof_of_work_bits fit.query_work)))))

-- tests of items, of which each passes
pass-more : {X E : Type 0} (tests : X → List (Test E)) (x : X) (xs : List X) →
    answer (tests x) (tt {0}) ≡ Ok (tt {0}) → answer (flat_map tests xs) (tt {0}) ≡ Ok (tt {0}) →
    answer {A = Unit {0}} (flat_map tests (x ∷ xs)) (tt {0}) ≡ Ok (tt {0})
pass-more tests x xs here rest =
    answer-append (tests x) (flat_map tests xs) (tt {0})
    ∙ ap (λ r. result_and r (answer (flat_map tests xs) (tt {0}))) here ∙ rest

-- points that are not at infinity
finite-none : {F E : Type 0} (k : Fields F E) (same : E → E → Bool) (law : (a b : E) →
    (same a b ≡ true) ↔ (a ≡ b)) (points : List E) →
    All (λ t. ¬ (k.extension.mul t t ≡ k.extension.neg k.extension.one)) points →
    list_any (is_at_infinity same k.extension) points ≡ false
finite-none k same law points finite =
    list_any_none (is_at_infinity same k.extension) points
    (λ i d lt. let t = slice_index_or points i d in
    never (is_at_infinity same k.extension t)
    (λ yes. finite i d lt
    ((law (k.extension.mul t t) (k.extension.neg k.extension.one)).0 yes)))

-- a request whose data were kept of an honest batch
abbrev pub IsKeptHonestly : {F E M D Com : Type 0} → Ghosts F → Fields F E → ℕ → FriParameters M →
    (D → List (RowMajorMatrix F)) → (List (RowMajorMatrix F) → Com → Type 0) → OpeningRequest D E →
    Type 0
IsKeptHonestly {F = F} {D = D} g k two p kept Commits =
    IsHonest {Dom = CircleDomain F g} {M = RowMajorMatrix F}
    (λ batch commitment (d : D). IsCommitted k.field k.gen p.log_blowup Commits batch commitment
    (kept d)) (IsHonestBatch k.field k.gen k.extension k.embed two p)

module _ {F E M : Type 0} (g : Ghosts F) (k : Fields F E) (two : ℕ) (p : FriParameters M) where
  -- rows on a domain that leaves something to fold, and of which the group has the extension, and
  -- points that are not at infinity; they may be on the domain
  pub record CanBeAskedAt (given : CircleDomain F g × RowMajorMatrix F) (points : List E) : Type 0
    where
      pub large : p.log_final_poly_len + 2 ≤ log_size given.0
      pub in_group : log_size given.0 + p.log_blowup < two
      pub finite : All (IsFinite k.extension) points

  -- a batch of some rows, each with such points
  pub record IsAskedBatch (batch : List (CircleDomain F g × RowMajorMatrix F))
      (points : List (List E)) : Type 0 where
    pub some : 1 ≤ length batch
    pub rows : AllZip CanBeAskedAt batch points

  -- a request whose data were kept of such a batch
  abbrev pub IsKeptToAsk : {D Com : Type 0} → (D → List (RowMajorMatrix F)) →
      (List (RowMajorMatrix F) → Com → Type 0) → OpeningRequest D E → Type 0
  IsKeptToAsk {D = D} kept Commits =
      IsHonest {Dom = CircleDomain F g} {M = RowMajorMatrix F}
      (λ batch commitment (d : D). IsCommitted k.field k.gen p.log_blowup Commits batch commitment
      (kept d)) IsAskedBatch

module _ {F M : Type 0} {g : Ghosts F} (f : FieldOps F) (eq : F → F → Bool)
    (eq_law : (a b : F) → (eq a b ≡ true) ↔ (a ≡ b)) (two : ℕ) (p : FriParameters M) where
  -- a domain that leaves something to fold and can be extended
  domain-passes : (d : CircleDomain F g) → p.log_final_poly_len + 2 ≤ log_size d →
      IsExtendable f two p.log_blowup d →
      answer {A = Unit {0}} (domain_tests two p eq f d) (tt {0}) ≡ Ok (tt {0})
  domain-passes d large (in_group, genuine) =
      let turned = times f (2 ^ log_size d) (shift_of d) in
      let whole : is_degenerate eq f d ≡ false =
      neither _ _ (ne_eqb (log_size d) 0 (λ e. omega (arith, e, large)))
      (never (eq turned.x f.one && eq turned.y f.zero)
      (λ yes. let both = and-each (eq turned.x f.one) (eq turned.y f.zero) yes in
      genuine.1
      (same_coordinates ((eq_law turned.x f.one).0 both.0)
      ((eq_law turned.y f.zero).0 both.1)))) in
      skipped _ _ (tt {0}) (le-ltb (log_size d) (2 + p.log_final_poly_len) (omega (arith, large)))
      ∙ skipped _ _ (tt {0}) (lt-leb two (log_size d + p.log_blowup) in_group)
      ∙ skipped _ _ (tt {0}) whole ∙ answer-none (tt {0})

  -- so of each domain of a batch
  abbrev AreCommittable : List (CircleDomain F g × RowMajorMatrix F) → Type 0
  AreCommittable batch =
      All (λ x. (p.log_final_poly_len + 2 ≤ log_size x.0) × IsExtendable f two p.log_blowup x.0)
      batch

  rows-pass : (batch : List (CircleDomain F g × RowMajorMatrix F)) → AreCommittable batch →
      answer (evaluation_tests two p eq f batch) (tt {0}) ≡ Ok (tt {0})
  rows-pass [] can = answer-none (tt {0})
  rows-pass (x ∷ batch) can =
      let first = can 0 x (omega arith) in
      pass-more (λ (e : CircleDomain F g × RowMajorMatrix F). domain_tests two p eq f e.0) x
      batch (domain-passes x.0 first.0 first.1)
      (rows-pass batch (λ i d lt. can (suc i) d (omega (arith, lt))))

  -- a batch that is to be committed to
  pub batch-passes : (batch : List (CircleDomain F g × RowMajorMatrix F)) → 1 ≤ length batch →
      AreCommittable batch → answer (commit_tests two p eq f batch) (tt {0}) ≡ Ok (tt {0})
  batch-passes batch some can =
      skipped _ _ (tt {0}) (ne_eqb (length batch) 0 (λ e. omega (arith, e, some)))
      ∙ rows-pass batch can

  committable : {E : Type 0} (gen : ℕ → Coordinates F) (l : FieldOps E) (embed : F → E)
      (batch : List (CircleDomain F g × RowMajorMatrix F)) (points : List (List E)) →
      AllZip (CanBeOpenedAt f gen l embed two p) batch points → AreCommittable batch
  committable gen l embed [] points can = λ i d lt. absurd (omega (arith, lt))
  committable gen l embed (x ∷ batch) [] can = absurd can
  committable gen l embed (x ∷ batch) (t ∷ points) can =
      All-cons
      (λ (x : CircleDomain F g × RowMajorMatrix F). (p.log_final_poly_len + 2 ≤ log_size x.0)
      × IsExtendable f two p.log_blowup x.0) x batch
      (can.0.large, (can.0.in_group, can.0.genuine)) (committable gen l embed batch points can.1)

  -- an honest batch
  pub honest-passes : {E : Type 0} (gen : ℕ → Coordinates F) (l : FieldOps E) (embed : F → E)
      (batch : List (CircleDomain F g × RowMajorMatrix F)) (points : List (List E)) →
      IsHonestBatch f gen l embed two p batch points →
      answer (commit_tests two p eq f batch) (tt {0}) ≡ Ok (tt {0})
  honest-passes gen l embed batch points honest =
      batch-passes batch honest.some (committable gen l embed batch points honest.rows)

module _ {F E M : Type 0} {g : Ghosts F} (k : Fields F E) (same : E → E → Bool)
    (law : (a b : E) → (same a b ≡ true) ↔ (a ≡ b)) (two : ℕ) (small : two ≤ 62)
    (p : FriParameters M) where
  -- rows on a domain and points of theirs
  abbrev CanOpen : CircleDomain F g × RowMajorMatrix F → List E → Type 0
  CanOpen = CanBeOpenedAt k.field k.gen k.extension k.embed two p

  -- points that may be on the domain
  abbrev CanAsk : CircleDomain F g × RowMajorMatrix F → List E → Type 0
  CanAsk = CanBeAskedAt g k two p

  to-ask : (batch : List (CircleDomain F g × RowMajorMatrix F)) (points : List (List E)) →
      AllZip CanOpen batch points → AllZip CanAsk batch points
  to-ask [] [] can = tt
  to-ask [] (t ∷ points) can = absurd can
  to-ask (x ∷ batch) [] can = absurd can
  to-ask (x ∷ batch) (t ∷ points) can = (
    record { large = can.0.large; in_group = can.0.in_group; finite = can.0.finite },
    to-ask batch points can.1,
  )

  -- the height of what is committed to
  pub log-extended : (x : CircleDomain F g × RowMajorMatrix F) (m : RowMajorMatrix F) →
      log_size x.0 + p.log_blowup < two → IsExtension k.field k.gen p.log_blowup x.0 x.1 m →
      log_of (height_of m) ≡ log_size x.0 + p.log_blowup
  log-extended x m fits extension = ap log_of extension.height
      ∙ log_of-power (log_size x.0 + p.log_blowup) (omega (arith, fits, small))

  height-passes : (x : CircleDomain F g × RowMajorMatrix F) (m : RowMajorMatrix F)
      (points : List E) → CanAsk x points →
      IsExtension k.field k.gen p.log_blowup x.0 x.1 m →
      answer {A = Unit {0}} (height_tests two p (height_of m)) (tt {0}) ≡ Ok (tt {0})
  height-passes x m points can extension =
      let large = can.large in
      height_fits two p (height_of m) (log_size x.0 + p.log_blowup) (sym extension.height)
      (omega (arith, large)) can.in_group

  heights-pass : (batch : List (CircleDomain F g × RowMajorMatrix F)) (ms : List (RowMajorMatrix F))
      (points : List (List E)) → AreExtensions k.field k.gen p.log_blowup batch ms →
      AllZip CanAsk batch points →
      answer (matrix_tests two p ms) (tt {0}) ≡ Ok (tt {0})
  heights-pass [] [] points made can = answer-none (tt {0})
  heights-pass [] (m ∷ ms) points made can = absurd made
  heights-pass (x ∷ batch) [] points made can = absurd made
  heights-pass (x ∷ batch) (m ∷ ms) [] made can = absurd can
  heights-pass (x ∷ batch) (m ∷ ms) (t ∷ points) made can =
      pass-more (λ (m : RowMajorMatrix F). height_tests two p (height_of m)) m ms
      (height-passes x m t can.0 made.0) (heights-pass batch ms points made.1 can.1)

  -- its points are not on its domain
  apart-none : (x : CircleDomain F g × RowMajorMatrix F) (m : RowMajorMatrix F) (points : List E) →
      CanOpen x points → IsExtension k.field k.gen p.log_blowup x.0 x.1 m →
      some_on_domain k same m points ≡ false
  apart-none x m points can extension =
      let domain = λ (h : ℕ). points_of_height k.field k.gen h in
      ap (λ h. list_any (λ t. list_any (is_at k same t) (domain h)) points)
      (log-extended x m can.in_group extension)
      ∙ (let ps = domain (log_size x.0 + p.log_blowup) in
      list_any_none (λ t. list_any (is_at k same t) ps) points
      (λ i d lt. let t = slice_index_or points i d in
      list_any_none (is_at k same t) ps
      (λ j e lt'. let q = slice_index_or ps j e in
      never (is_at k same t q) (λ yes. can.off i d lt j e lt' ((told k same law t q).0 yes)))))

  vectors-finite : (batch : List (CircleDomain F g × RowMajorMatrix F)) (vs : List (Vec E Global)) →
      AllZip CanAsk batch (map (λ v. v.items) vs) →
      AllByRecursion (λ v. list_any (is_at_infinity same k.extension) v.items ≡ false) vs
  vectors-finite [] [] can = tt
  vectors-finite [] (v ∷ vs) can = absurd can
  vectors-finite (x ∷ batch) [] can = absurd can
  vectors-finite (x ∷ batch) (v ∷ vs) can =
      (finite-none k same law v.items can.0.finite, vectors-finite batch vs can.1)

  vectors-apart : (batch : List (CircleDomain F g × RowMajorMatrix F))
      (ms : List (RowMajorMatrix F)) (vs : List (Vec E Global)) →
      AreExtensions k.field k.gen p.log_blowup batch ms →
      AllZip CanOpen batch (map (λ v. v.items) vs) →
      AllByRecursion (λ asked. some_on_domain k same asked.0 asked.1.items ≡ false) (zip ms vs)
  vectors-apart [] [] [] made can = tt
  vectors-apart [] [] (v ∷ vs) made can = absurd can
  vectors-apart [] (m ∷ ms) vs made can = absurd made
  vectors-apart (x ∷ batch) [] vs made can = absurd made
  vectors-apart (x ∷ batch) (m ∷ ms) [] made can = absurd can
  vectors-apart (x ∷ batch) (m ∷ ms) (v ∷ vs) made can =
      (apart-none x m v.items can.0 made.0, vectors-apart batch ms vs made.1 can.1)

  counted : (batch : List (CircleDomain F g × RowMajorMatrix F)) (ms : List (RowMajorMatrix F))
      (vs : List (Vec E Global)) → AreExtensions k.field k.gen p.log_blowup batch ms →
      AllZip CanAsk batch (map (λ v. v.items) vs) → length vs ≡ length ms
  counted [] [] [] made can = refl
  counted [] [] (v ∷ vs) made can = absurd can
  counted [] (m ∷ ms) vs made can = absurd made
  counted (x ∷ batch) [] vs made can = absurd made
  counted (x ∷ batch) (m ∷ ms) [] made can = absurd can
  counted (x ∷ batch) (m ∷ ms) (v ∷ vs) made can = let rest = counted batch ms vs made.1 can.1 in
      omega (arith, rest)

  as-many : (batch : List (CircleDomain F g × RowMajorMatrix F)) (ms : List (RowMajorMatrix F)) →
      AreExtensions k.field k.gen p.log_blowup batch ms → length batch ≡ length ms
  as-many [] [] made = refl
  as-many [] (m ∷ ms) made = absurd made
  as-many (x ∷ batch) [] made = absurd made
  as-many (x ∷ batch) (m ∷ ms) made = let rest = as-many batch ms made.1 in omega (arith, rest)

  module _ {D Com : Type 0} (kept : D → List (RowMajorMatrix F))
      (Commits : List (RowMajorMatrix F) → Com → Type 0) where
    all-heights : (qs : List (OpeningRequest D E)) → All (IsKeptToAsk g k two p kept Commits) qs →
        answer (flat_map (λ r. matrix_tests two p (kept r.prover_data.now)) qs) (tt {0})
        ≡ Ok (tt {0})
    all-heights [] known = answer-none (tt {0})
    all-heights (q ∷ qs) known =
        let h = known 0 q (omega arith) in
        pass-more (λ (r : OpeningRequest D E). matrix_tests two p (kept r.prover_data.now)) q qs
        (heights-pass h.batch (kept q.prover_data.now) (requested_points q) h.committed.extended
        h.opens.rows)
        (all-heights qs (λ i d lt. known (suc i) d (omega (arith, lt))))

    -- requests that nothing but a point on a domain could have refused
    module _ (requests : List (OpeningRequest D E)) (some : 1 ≤ length requests)
        (known : All (IsKeptToAsk g k two p kept Commits) requests) where
      none-lacking : lacks_matrices kept requests ≡ false
      none-lacking =
          neither _ _ (ne_eqb (length requests) 0 (λ e. omega (arith, e, some)))
          (list_any_none (λ (r : OpeningRequest D E). length (kept r.prover_data.now) == 0) requests
          (λ i d lt. let h = known i d lt in
          let ms = kept (slice_index_or requests i d).prover_data.now in
          let long = as-many h.batch ms h.committed.extended in
          let positive = h.opens.some in
          ne_eqb (length ms) 0 (λ e. omega (arith, e, long, positive))))

      all-counted : has_other_counts kept requests ≡ false
      all-counted =
          list_any_none
          (λ (r : OpeningRequest D E). not (vec_len r.points == length (kept r.prover_data.now)))
          requests
          (λ i d lt. let h = known i d lt in
          let q = slice_index_or requests i d in
          ap not
          (eq-eqb (vec_len q.points) (length (kept q.prover_data.now))
          (sym (sym q.points.ok.0) ∙ counted h.batch (kept q.prover_data.now) q.points.items
          h.committed.extended h.opens.rows)))

      none-infinite : list_any (is_infinite same k.extension) requests ≡ false
      none-infinite =
          list_any_none (is_infinite same k.extension) requests
          (λ i d lt. let h = known i d lt in
          let vs = (slice_index_or requests i d).points.items in
          list_any_none (λ (v : Vec E Global). list_any (is_at_infinity same k.extension) v.items)
          vs
          (All-from_recursion
          (λ (v : Vec E Global). list_any (is_at_infinity same k.extension) v.items ≡ false) vs
          (vectors-finite h.batch vs h.opens.rows)))

      pub asked-pass : is_unfit p ≡ false → meets_domains kept requests k same ≡ false →
          answer (opening_tests kept requests two p k same) (tt {0}) ≡ Ok (tt {0})
      asked-pass fit =
          none-refused kept requests two p k same fit none-lacking all-counted
          (all-heights requests known) none-infinite

      pub asked-on-domain : is_unfit p ≡ false → meets_domains kept requests k same ≡ true →
          answer (opening_tests kept requests two p k same) (tt {0}) ≡ Err PointOnDomain
      asked-on-domain fit =
          domains-refused kept requests two p k same fit none-lacking all-counted
          (all-heights requests known) none-infinite

    -- honest requests
    pub requests-pass : (requests : List (OpeningRequest D E)) → 1 ≤ length requests →
        All (IsKeptHonestly g k two p kept Commits) requests →
        answer (opening_tests kept requests two p k same) (tt {0}) ≡ Ok (tt {0})
    requests-pass [] some honest = absurd (omega (arith, some))
    requests-pass (r ∷ rest) some honest =
        let requests = r ∷ rest in
        let first = honest 0 r (omega arith) in
        asked-pass requests some
        (λ i d lt. let h = honest i d lt in record {
          batch = h.batch;
          commitment = h.commitment;
          committed = h.committed;
          opens = record {
            some = h.opens.some;
            rows = to-ask h.batch (requested_points (slice_index_or requests i d)) h.opens.rows;
          };
        })
        (supported p first.opens.parameters first.opens.arity)
        (list_any_none (λ (r : OpeningRequest D E). meets_domain
        k same (kept r.prover_data.now) r.points.items) requests
        (λ i d lt. let h = honest i d lt in
        let q = slice_index_or requests i d in
        let ms = kept q.prover_data.now in
        let vs = q.points.items in
        list_any_none (λ (asked : RowMajorMatrix F × Vec E Global). some_on_domain
        k same asked.0 asked.1.items) (zip ms vs)
        (All-from_recursion (λ (asked : RowMajorMatrix F × Vec E Global). some_on_domain
        k same asked.0 asked.1.items ≡ false) (zip ms vs)
        (vectors-apart h.batch ms vs h.committed.extended h.opens.rows))))
