-- What a prover commits to can be committed to, and its points can be asked for.
use Rattle.std.specs.Prelude.{◌≡◌, ◌≢◌, ℕ, ◌+◌, ◌*◌, ◌^◌, ◌<◌, ◌≤◌, List, [], ◌∷◌, length, Some}
use Rattle.std.specs.Prelude.{map, replicate, take, All, Err, IfErr, MatchResult, Ok, Result}
use Rattle.std.specs.Prelude.{slice_get, slice_index_or}
use Rattle.std.specs.List.{AllZip}
use Rattle.std.proofs.Common.{zero, suc, sym, ◌∙◌, ap, subst, arith, pow-add}
use Rattle.std.proofs.lemmas.List.{get_or-map, get_or-take, length-map}
use Rattle.std.proofs.lemmas.List.{length-take-le}
use Rattle.std.proofs.lemmas.List.Elements.{All-cons, All-nil}
use Rattle.std.proofs.lemmas.Bool.{le-ltb}
use Rattle.std.proofs.lemmas.Nat.{pow_pos}
use lib.Pow.{pow_mono}
use Rattle.std.proofs.lemmas.Option.{slice_get-get_or}
use Rattle.circle_commit.specs.Honest.{requested_points}
use Rattle.circle_commit.specs.RowMajorMatrix.{height_of}
use Rattle.circle_commit.specs.declared.matrix.RowMajorMatrix.{RowMajorMatrix}
use Rattle.circle_commit.specs.declared.params.FriParameters.{FriParameters}
use Rattle.circle_commit.specs.declared.pcs.OpeningRequest.{OpeningRequest}
use Rattle.circle_domain.specs.Domain.{IsStandardOf, log_size, shift_of}
use Rattle.circle_domain.specs.Order.{IsGenuine, natural_order}
use Rattle.circle_domain.specs.Selectors.{IsFinite, next_from}
use Rattle.circle_domain.specs.declared.domain.CircleDomain.{CircleDomain}
use Rattle.circle_domain.proofs.Inversion.{first-genuine}
use Rattle.circle_domain.proofs.PartLists.{length-natural_order}
use Rattle.circle_domain.proofs.StandardDomain.{standard-genuine}
use Rattle.circle_domain.proofs.Walking.{coordinate-finite, standard-at, standard-doublings}
use Rattle.circle_field.specs.Circle.{AreGenerators, Coordinates, IsOnCircle, lifted, origin}
use Rattle.circle_field.specs.Circle.{times}
use Rattle.circle_field.specs.CircleGroup.{lifted-on_circle, plus-on_circle}
use Rattle.circle_field.specs.Field.{FieldLaws, FieldOps, IsEmbedding}
use Rattle.circle_field.specs.declared.field.Operations.{Ghosts}
use Rattle.circle_point.specs.Projective.{from_line, to_line}
use Rattle.circle_point.proofs.Selectors.{not_infinite}
use Rattle.circle_quotient.specs.Fit.{IsFit}
use Rattle.circle_quotient.proofs.FitPoints.{finite-on_circle}
use Rattle.circle_relation.specs.Accepts.{Fields}
use Rattle.circle_prover.specs.Requesting.{height_tests}
use Rattle.circle_prover.proofs.CommittedHeights.{height_fits}
use Rattle.circle_relation.proofs.Answering.{answer-none, skipped}
use Rattle.circle_relation.proofs.Passed.{front_passes}
use Rattle.circle_relation.specs.TestsInOrder.{Test, answer}
use Rattle.circle_relation.specs.declared.error.ProverError.{ProverError}
use Rattle.circle_relation.specs.declared.error.ProverError.TheVariants.{Memory}
use Rattle.p3_circle.specs.Committing.{AreExtensions, IsExtendable, RefusesInOrder}
use Rattle.p3_circle.specs.Committing.{target_tests_at}
use Rattle.p3_circle.specs.Scheme.{IsCommitted}
use Rattle.p3_circle.specs.SchemeLaws.HonestTests.{CanBeAskedAt, IsKeptToAsk}
use Rattle.circle_stark.specs.Honest.{IsTraceCommitted}
use Rattle.circle_stark.proofs.Heads.{heads, rests}

module _ {F : Type 0} {k : FieldOps F} (laws : FieldLaws k) {gen : ℕ → Coordinates F} {bits : ℕ}
    (gens : AreGenerators k bits gen) where
  -- a point that isn't neutral after some doublings wasn't before
  sooner : (n kk : ℕ) (p : Coordinates F) → times k (2 ^ (n + kk)) p ≢ origin k →
      times k (2 ^ n) p ≢ origin k
  sooner n zero p h = let e : n + 0 ≡ n = omega arith in
      λ bad. h (ap (λ i. times k (2 ^ i) p) e ∙ bad)
  sooner n (suc kk) p h =
      let e : n + suc kk ≡ suc (n + kk) = omega arith in
      sooner n kk p (first-genuine laws (n + kk) p (λ bad. h (ap (λ i. times k (2 ^ i) p) e ∙ bad)))

  -- a domain of 2^n points from a point of the standard domain of 2^(n + kk) on is genuine
  part-genuine : (n kk : ℕ) → 1 ≤ n → n + kk < bits → (i : ℕ) (p : Coordinates F) →
      slice_get (natural_order k gen (n + kk) (gen (n + kk + 1))) i ≡ Some p → IsGenuine k n p
  part-genuine n kk positive fits i p here = (
    positive,
    sooner n kk p
        (λ bad.
        let m = n + kk in
        let some : 1 ≤ m = omega (arith, positive) in
        let minus : k.neg k.one ≡ k.one =
        ap (λ (q : Coordinates F). q.x)
        (sym (standard-doublings laws.ring gens m some fits i)
        ∙ ap (times k (2 ^ m)) (sym (standard-at laws.ring gens m some fits i p here)) ∙ bad) in
        laws.two_nonzero (ap (λ v. k.add v k.one) (sym minus) ∙ laws.ring.neg_add k.one)),
  )

module _ {F M : Type 0} {g : Ghosts F} {k : FieldOps F} (laws : FieldLaws k)
    {gen : ℕ → Coordinates F} {two : ℕ} (gens : AreGenerators k two gen) (p : FriParameters M)
    (n : ℕ) (foldable : p.log_final_poly_len + 2 ≤ n) (extended : n + p.log_blowup < two) where
  -- a domain that leaves something to fold and can be extended
  abbrev pub CanBeCommitted : CircleDomain F g × RowMajorMatrix F → Type 0
  CanBeCommitted x =
      (p.log_final_poly_len + 2 ≤ log_size x.0) × IsExtendable k two p.log_blowup x.0

  of-size : (x : CircleDomain F g × RowMajorMatrix F) → log_size x.0 ≡ n →
      IsGenuine k n (shift_of x.0) → CanBeCommitted x
  of-size x size genuine = (
    omega (arith, foldable, size),
    (
      omega (arith, extended, size),
      subst (λ m. IsGenuine k m (shift_of x.0)) (sym size) genuine,
    ),
  )

  -- the trace
  pub trace-committable : (domain : CircleDomain F g) (rows : RowMajorMatrix F) →
      IsStandardOf gen n domain → All CanBeCommitted ((domain, rows) ∷ [])
  trace-committable domain rows (size, shift) =
      All-cons CanBeCommitted (domain, rows) []
      (of-size (domain, rows) size
      (subst (IsGenuine k n) (sym (shift ∙ ap (λ m. gen (m + 1)) size))
      (standard-genuine laws gens n (omega (arith, foldable)) (omega (arith, extended)))))
      (All-nil CanBeCommitted)

  -- the chunks
  module _ (kk : ℕ) (fits : n + kk < two) (batch : List (CircleDomain F g × RowMajorMatrix F))
      (shifts : map (λ c. shift_of c.0) batch
      ≡ take (2 ^ kk) (natural_order k gen (n + kk) (gen (n + kk + 1)))) where
    abbrev all-points : List (Coordinates F)
    all-points = natural_order k gen (n + kk) (gen (n + kk + 1))

    whole : length all-points ≡ 2 ^ (n + kk)
    whole = length-natural_order k gen (n + kk) (gen (n + kk + 1)) (omega (arith, foldable))

    enough : 2 ^ kk ≤ length all-points
    enough =
        let product : 2 ^ (n + kk) ≡ 2 ^ n * 2 ^ kk = pow-add 2 n kk in
        let some = pow_pos n in
        grind (arith, whole, product, some)

    pub chunk-count : length batch ≡ 2 ^ kk
    chunk-count = sym (length-map batch (λ c. shift_of c.0)) ∙ ap length shifts
        ∙ length-take-le (2 ^ kk) all-points enough

    pub chunks-committable : All (λ c. log_size c.0 ≡ n) batch → All CanBeCommitted batch
    chunks-committable sizes = λ i d lt.
        let c = slice_index_or batch i d in
        let below : i < 2 ^ kk = omega (arith, lt, chunk-count) in
        let q : Coordinates F = slice_index_or all-points i (shift_of d.0) in
        let same : shift_of c.0 ≡ q =
        sym (get_or-map (λ c. shift_of c.0) batch i d (shift_of d.0) lt)
        ∙ ap (λ ps. slice_index_or ps i (shift_of d.0)) shifts
        ∙ get_or-take (2 ^ kk) all-points i (shift_of d.0) below in
        of-size c (sizes i d lt)
        (subst (IsGenuine k n) (sym same)
        (part-genuine laws gens n kk (omega (arith, foldable)) fits i q
        (slice_get-get_or all-points i (shift_of d.0) (omega (arith, below, enough)))))

-- finite points may be asked for of what was committed to
module _ {F E M D Com : Type 0} {g : Ghosts F} (k : Fields F E) (p : FriParameters M)
    (kept : D → List (RowMajorMatrix F)) (Commits : List (RowMajorMatrix F) → Com → Type 0)
    (n : ℕ) (foldable : p.log_final_poly_len + 2 ≤ n) (extended : n + p.log_blowup < k.two_adicity)
    (zeta next : E) (finite : IsFinite k.extension zeta) (finite_next : IsFinite k.extension next)
  where
    asked-at : (x : CircleDomain F g × RowMajorMatrix F) (points : List E) → log_size x.0 ≡ n →
        All (IsFinite k.extension) points → CanBeAskedAt g k k.two_adicity p x points
    asked-at x points size all = record {
      large = omega (arith, foldable, size);
      in_group = omega (arith, extended, size);
      finite = all;
    }

    all-asked : (batch : List (CircleDomain F g × RowMajorMatrix F)) →
        All (λ c. log_size c.0 ≡ n) batch →
        AllZip (CanBeAskedAt g k k.two_adicity p) batch (replicate (length batch) (zeta ∷ []))
    all-asked [] sizes = tt
    all-asked (x ∷ batch) sizes = (
      asked-at x (zeta ∷ []) (sizes 0 x (omega arith))
          (All-cons (IsFinite k.extension) zeta [] finite (All-nil (IsFinite k.extension))),
      all-asked batch (λ i d lt. sizes (suc i) d (omega (arith, lt))),
    )

    module _ (a b : D) (x : RowMajorMatrix F) (trace quotient : Com)
        (of_trace : IsTraceCommitted g k.field k.gen p.log_blowup Commits n x trace (kept a))
        (batch : List (CircleDomain F g × RowMajorMatrix F)) (count : ℕ)
        (some : 1 ≤ count) (long : length batch ≡ count)
        (sizes : All (λ c. log_size c.0 ≡ n) batch)
        (committed : IsCommitted k.field k.gen p.log_blowup Commits batch quotient (kept b)) where
      abbrev Asked : OpeningRequest D E → Type 0
      Asked = IsKeptToAsk g k k.two_adicity p kept Commits

      trace-asked : (q : OpeningRequest D E) → q.prover_data.now ≡ a →
          requested_points q ≡ (zeta ∷ next ∷ []) ∷ [] → Asked q
      trace-asked q named points = record {
        batch = (of_trace.domain, x) ∷ [];
        commitment = trace;
        committed = subst
            (λ d. IsCommitted k.field k.gen p.log_blowup Commits ((of_trace.domain, x) ∷ []) trace
            (kept d)) (sym named) of_trace.committed;
        opens = record {
          some = omega arith;
          rows = subst
              (AllZip (CanBeAskedAt g k k.two_adicity p) ((of_trace.domain, x) ∷ [])) (sym points) (
                asked-at (of_trace.domain, x) (zeta ∷ next ∷ []) of_trace.standard.0
                    (All-cons (IsFinite k.extension) zeta (next ∷ []) finite
                    (All-cons (IsFinite k.extension) next [] finite_next
                    (All-nil (IsFinite k.extension)))),
                tt,
              );
        };
      }

      chunks-asked : (q : OpeningRequest D E) → q.prover_data.now ≡ b →
          requested_points q ≡ replicate count (zeta ∷ []) → Asked q
      chunks-asked q named points = record {
        batch = batch;
        commitment = quotient;
        committed = subst
            (λ d. IsCommitted k.field k.gen p.log_blowup Commits batch quotient (kept d))
            (sym named)
            committed;
        opens = record {
          some = omega (arith, some, long);
          rows = subst (AllZip (CanBeAskedAt g k k.two_adicity p) batch)
              (ap (λ i. replicate i (zeta ∷ [])) long ∙ sym points) (all-asked batch sizes);
        };
      }

      pub requests-asked : (requests : List (OpeningRequest D E)) →
          map (λ r. r.prover_data.now) requests ≡ a ∷ b ∷ [] →
          map requested_points requests
          ≡ ((zeta ∷ next ∷ []) ∷ []) ∷ replicate count (zeta ∷ []) ∷ [] →
          (1 ≤ length requests) × All Asked requests
      requests-asked [] named points = absurd (let l = ap length named in omega (arith, l))
      requests-asked (q ∷ []) named points = absurd (let l = ap length named in omega (arith, l))
      requests-asked (q ∷ s ∷ []) named points = (
        omega arith,
        All-cons Asked q (s ∷ [])
            (trace-asked q (heads _ _ _ _ named) (heads _ _ _ _ points))
            (All-cons Asked s []
            (chunks-asked s (heads _ _ _ _ (rests _ _ _ _ named))
            (heads _ _ _ _ (rests _ _ _ _ points)))
            (All-nil Asked)),
      )
      requests-asked (q ∷ s ∷ o ∷ rest) named points =
          absurd (let l = ap length named in omega (arith, l))

-- where no test has reason, a refusal is for want of memory
pub only-memory : {A : Type 0} (tests : List (Test ProverError)) (result : Result A ProverError)
    (e : ProverError) → answer tests (tt {0}) ≡ Ok (tt {0}) → result ≡ Err e →
    RefusesInOrder tests result → e ≡ Memory
only-memory tests result e ok is refused =
    subst (λ r. IfErr r (λ f. f ≡ Memory)) is
    (subst (λ a. MatchResult a (λ (u : Unit {0}). IfErr result (λ f. f ≡ Memory))
    (λ first. result ≡ Err first)) ok refused)

-- the point after one that can be opened is finite
pub next-finite : {F E : Type 0} {k : FieldOps F} {l : FieldOps E} {m : F → E} (laws : FieldLaws l)
    (embedding : IsEmbedding k l m) {gen : ℕ → Coordinates F} {bits : ℕ}
    (gens : AreGenerators k bits gen) (n : ℕ) → n ≤ bits → (t : E) → IsFit l m gen n t →
    IsFinite l (to_line l (next_from l m gen n t))
next-finite {l = l} {m = m} laws embedding {gen = gen} gens n fits t fit =
    let q = next_from l m gen n t in
    let on : IsOnCircle l q =
    plus-on_circle laws.ring (from_line l t) (lifted m (gen n))
    (finite-on_circle laws t fit.finite)
    (lifted-on_circle embedding (gen n) (gens.on_circle n fits))
    in
    coordinate-finite laws q on (not_infinite laws q on fit.has_next)

-- what was kept of a trace of 2^n rows passes the tests of a larger domain
pub target-passes : {F M : Type 0} {g : Ghosts F} (k : FieldOps F) (gen : ℕ → Coordinates F)
    (two : ℕ) (p : FriParameters M) (n m : ℕ) → p.log_final_poly_len + 2 ≤ n →
    n + p.log_blowup < two → n ≤ m → (domain : CircleDomain F g) (given : RowMajorMatrix F) →
    IsStandardOf gen n domain → (matrices : List (RowMajorMatrix F)) →
    AreExtensions k gen p.log_blowup ((domain, given) ∷ []) matrices →
    answer (target_tests_at two p matrices 0 m) (tt {0}) ≡ Ok (tt {0})
target-passes k gen two p n m foldable extended larger domain given standard [] made = absurd made
target-passes k gen two p n m foldable extended larger domain given standard (kept ∷ []) made =
    let tall : height_of kept ≡ 2 ^ (n + p.log_blowup) =
    made.0.height ∙ ap (λ i. 2 ^ (i + p.log_blowup)) standard.0 in
    let within : 2 ^ (n + p.log_blowup) ≤ 2 ^ (m + p.log_blowup) =
    pow_mono (omega (arith, larger)) in
    front_passes (height_tests two p (height_of kept)) _ (tt {0}) (tt {0}) (tt {0})
    (height_fits two p (height_of kept) (n + p.log_blowup) (sym tall) (omega (arith, foldable))
    extended)
    ∙ skipped _ _ (tt {0})
    (le-ltb (2 ^ (m + p.log_blowup)) (height_of kept) (omega (arith, tall, within)))
    ∙ answer-none (tt {0})
target-passes k gen two p n m foldable extended larger domain given standard
    (kept ∷ other ∷ rest) made = absurd made.1
