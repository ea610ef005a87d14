-- What the command `prove` writes is accepted by `verify`.
use Rattle.std.specs.Prelude.{◌≡◌, ℕ, ◌+◌, ◌-◌, ◌^◌, ◌<◌, ◌≤◌, List, [], ◌∷◌, ◌++◌, length, map}
use Rattle.std.specs.Prelude.{zip, All, Vec}
use Rattle.std.specs.List.{AllByRecursion, AllZip}
use Rattle.std.specs.declared.alloc.Global.{Global}
use Rattle.std.proofs.Common.{refl, sym, ◌∙◌, ap, subst, arith, lit≤}
use Rattle.std.proofs.lemmas.List.{length-map}
use Rattle.std.proofs.lemmas.List.Elements.{All-from_recursion, recursion_from_All}
use Rattle.std.proofs.lemmas.Slice.Zip.{AllZip-long}
use Rattle.circle_completeness.specs.Claimed.{AreClaimed, IsClaimed}
use Rattle.circle_completeness.specs.Honest.{IsOfLowDegree}
use Rattle.circle_completeness.proofs.Accepted.{accepts-openings}
use Rattle.circle_completeness.proofs.ReadRows.{low-read}
use Rattle.circle_domain.proofs.Powers.{pow_injective}
use Rattle.circle_domain.specs.Values.{values_at}
use Rattle.circle_challenger.specs.Sponge.{number-below}
use Rattle.circle_field.specs.Circle.{Coordinates}
use Rattle.circle_field.specs.CubicOperations.{is_embedding, laws}
use Rattle.circle_field.specs.Field.{FieldOps}
use Rattle.circle_field.specs.Mersenne31.{operations, generators}
use Rattle.circle_field.specs.Mersenne31Circle.{are_generators}
use Rattle.circle_field.specs.Mersenne31Laws.{laws as base-laws}
use Rattle.circle_field.specs.declared.cubic.Cubic.{Cubic}
use Rattle.circle_field.specs.declared.mersenne31.Mersenne31.{Mersenne31}
use Rattle.circle_commit.specs.DotProduct.{pairwise}
use Rattle.circle_commit.specs.Parameters.{with_scheme}
use Rattle.circle_commit.specs.Pcs.{Openings}
use Rattle.circle_commit.specs.RowMajorMatrix.{width_of, height_of}
use Rattle.circle_commit.specs.declared.matrix.RowMajorMatrix.{RowMajorMatrix}
use Rattle.circle_commit.specs.declared.params.FriParameters.{FriParameters}
use Rattle.circle_commit.specs.declared.pcs.CommitmentOpening.{CommitmentOpening}
use Rattle.circle_commit.specs.declared.pcs.OpeningRequest.{OpeningRequest}
use Rattle.circle_merkle.specs.ProverData.{matrices_of}
use Rattle.circle_merkle.specs.declared.mmcs.ShaMmcs.{ShaMmcs}
use Rattle.circle_prover.specs.Opening.{IsOpening}
use Rattle.circle_codewords.specs.Requests.{AreAnswers, AreFit, AreRequests, AreValuesOf, IsFit}
use Rattle.circle_codewords.specs.Requests.{IsOpenable, batch_committed, claimed}
use Rattle.circle_codewords.specs.Requests.{committed as committed_at, lists_of, log_of}
use Rattle.circle_codewords.proofs.Logs.{log_of-power}
use Rattle.circle_relation.specs.Accepts.{AcceptsFrom, Fields}
use Rattle.circle_relation.specs.RunOf.{proof_of}
use Rattle.circle_relation.specs.Statement.{BatchClaim, MatrixClaim, all_matrices}
use Rattle.circle_codewords.specs.Ratios.{points_of_height}
use Rattle.circle_codewords.specs.Words.{claim_of}
use Rattle.circle_commands.specs.Chosen.{preset}
use Rattle.circle_commands.specs.Proved.{AreCommitted, AreOpened, HavePoints, IsCommitted}
use Rattle.circle_commands.specs.Proved.{IsExtended, IsRequested, batch_claimed, commitments_of}
use Rattle.circle_commands.specs.Proved.{matrix_claimed, points_of}
use Rattle.circle_commands.specs.Rows.{lists}
use Rattle.circle_commands.specs.Traces.{HasFittingRows}
use Rattle.circle_commands.specs.Verified.{IsVerifiedFrom, batch_told, batches_told}
use Rattle.circle_commands.specs.declared.prove.Committed.{Committed}
use Rattle.circle_commands.specs.declared.prove.Input.{Input}
use Rattle.circle_commands.specs.declared.prove.Trace.{Trace}
use Rattle.circle_commands.specs.declared.verify.Input.{Input as Claims}
use Rattle.circle_commands.proofs.Proving.{log_fits}

abbrev kept : preset.Kept → List (RowMajorMatrix Mersenne31)
kept = preset.schemes.kept

abbrev Commits : ShaMmcs Mersenne31 → List (RowMajorMatrix Mersenne31) → List ℕ → Type 0
Commits = preset.schemes.Commits

-- the claims have the commitments of what was committed to
same-commitments : (cs : List Committed) (vs : Openings Cubic)
    (bs : List (CommitmentOpening Cubic (List ℕ) ℕ)) → length vs ≡ length cs → batches_told bs
    ≡ pairwise batch_claimed cs vs → map (λ b. b.commitment) bs ≡ map (λ c. c.commitment) cs
same-commitments [] vs [] long told = refl
same-commitments [] vs (b ∷ bs) long told = absurd (cc)
same-commitments (c ∷ cs) [] bs long told = absurd (omega (arith, long))
same-commitments (c ∷ cs) (v ∷ vs) [] long told = absurd (cc)
same-commitments (c ∷ cs) (v ∷ vs) (b ∷ bs) long told =
    let first : batch_told b ≡ batch_claimed c v = cc in
    let rest : batches_told bs ≡ pairwise batch_claimed cs vs = cc in
    let same : b.commitment ≡ c.commitment =
    ap (λ (x : BatchClaim (List ℕ) Cubic). x.commitment) first in
    ap (λ root. root ∷ map (λ (b : CommitmentOpening Cubic (List ℕ) ℕ). b.commitment) bs) same
    ∙ ap (λ roots. c.commitment ∷ roots) (same-commitments cs vs bs (omega (arith, long)) rest)

both : {T : Type 0} (P : T → Type 0) (xs ys : List T) → AllByRecursion P xs → AllByRecursion P ys →
    AllByRecursion P (xs ++ ys)
both P [] ys first second = second
both P (x ∷ xs) ys first second = (first.0, both P xs ys first.1 second)

some-pairs : (points : List Cubic) (values : List (List Cubic)) → length values ≡ length points →
    1 ≤ length points → 1 ≤ length (pairwise claim_of points values)
some-pairs [] values long some = absurd (omega (arith, some))
some-pairs (t ∷ points) [] long some = absurd (omega (arith, long))
some-pairs (t ∷ points) (v ∷ values) long some = omega arith

module _ (k : Fields Mersenne31 Cubic) (blowup : ℕ) where
  -- the claims on a matrix are those on the committed one
  matrix-claimed : (t : Trace) (m : RowMajorMatrix Mersenne31) (vs : List (List Cubic)) →
      HasFittingRows t → IsExtended blowup (lists t.rows.items) m →
      height_of m ≡ 2 ^ log_of (height_of m) →
      matrix_claimed t vs ≡ claimed blowup (committed_at k blowup m t.points.items vs)
  matrix-claimed t m vs fitting extended power =
      let n = extended.log_n in
      let rows : length t.rows.items ≡ 2 ^ n = sym (length-map t.rows.items (λ row. row.items))
      ∙ extended.height in
      let small = log_fits n (length t.rows.items) (sym rows) fitting.at_most in
      let given : log_of (length t.rows.items) ≡ n =
      ap log_of rows ∙ log_of-power n (omega (arith, small)) in
      let high =
      pow_injective (log_of (height_of m)) (n + blowup) (sym power ∙ extended.extends.height) in
      let made : ℕ → MatrixClaim Cubic =
      λ n. record { log_n = n; claims = pairwise claim_of t.points.items vs } in
      ap made (given ∙ omega (arith, high))

  batch-claimed : (ts : List Trace) (ms : List (RowMajorMatrix Mersenne31))
      (vs : List (List (List Cubic))) → AllByRecursion HasFittingRows ts →
      AllZip (λ t made. IsExtended blowup (lists t.rows.items) made) ts ms →
      AllZip (IsOpenable k k.two_adicity blowup) ms (points_of ts) → pairwise matrix_claimed ts vs
      ≡ map (claimed blowup) (batch_committed k blowup ms (points_of ts) vs)
  batch-claimed [] [] vs fitting extended openable = refl
  batch-claimed [] (m ∷ ms) vs fitting extended openable = absurd extended
  batch-claimed (t ∷ ts) [] vs fitting extended openable = absurd extended
  batch-claimed (t ∷ ts) (m ∷ ms) [] fitting extended openable = refl
  batch-claimed (t ∷ ts) (m ∷ ms) (v ∷ vs) fitting extended openable =
      ap (λ first. first ∷ pairwise matrix_claimed ts vs)
      (matrix-claimed t m v fitting.0 extended.0 openable.0.power)
      ∙ ap (λ rest. claimed blowup (committed_at k blowup m t.points.items v) ∷ rest)
      (batch-claimed ts ms vs fitting.1 extended.1 openable.1)

  -- each matrix is claimed at a point
  batch-pointed : (ts : List Trace) (ms : List (RowMajorMatrix Mersenne31))
      (vs : List (List (List Cubic))) → AllByRecursion (λ t. 1 ≤ length t.points.items) ts →
      AllZip (λ m rest. AreValuesOf k blowup m rest.0 rest.1) ms (zip (points_of ts) vs) →
      AllByRecursion (λ m. 1 ≤ length m.claims) (pairwise matrix_claimed ts vs)
  batch-pointed [] ms vs some are = tt
  batch-pointed (t ∷ ts) ms [] some are = tt
  batch-pointed (t ∷ ts) [] (v ∷ vs) some are = absurd are
  batch-pointed (t ∷ ts) (m ∷ ms) (v ∷ vs) some are =
      (some-pairs t.points.items v are.0.count some.0, batch-pointed ts ms vs some.1 are.1)

  module _ (same_field : k.field ≡ operations) (same_gen : k.gen ≡ generators) where
    -- the extension of rows is of low degree
    extended-low : (given : List (List Mersenne31)) (m : RowMajorMatrix Mersenne31) →
        IsExtended blowup given m → height_of m ≡ 2 ^ log_of (height_of m) →
        IsOfLowDegree k blowup m
    extended-low given m extended power =
        let n = extended.log_n in
        let coeffs = extended.extends.coeffs in
        let high =
        pow_injective (log_of (height_of m)) (n + blowup)
        (sym power ∙ extended.extends.height) in
        let less : log_of (height_of m) - blowup ≡ n = omega (arith, high) in
        let at = λ (l : FieldOps Mersenne31) (gen : ℕ → Coordinates Mersenne31) (w h : ℕ). map
        (values_at l coeffs w) (points_of_height l gen h) in
        record {
          coeffs = coeffs;
          count = extended.extends.told.height ∙ ap (λ i. 2 ^ i) (sym less);
          values = ap (λ l. at l k.gen (width_of m) (log_of (height_of m))) same_field
              ∙ ap (λ gen. at operations gen (width_of m) (log_of (height_of m))) same_gen
              ∙ ap (λ w. at operations generators w (log_of (height_of m))) extended.extends.width
              ∙ ap (at operations generators extended.width) high ∙ sym extended.extends.values;
        }

    batch-low : (ts : List Trace) (ms : List (RowMajorMatrix Mersenne31))
        (points : List (List Cubic)) →
        AllZip (λ t made. IsExtended blowup (lists t.rows.items) made) ts ms →
        AllZip (IsOpenable k k.two_adicity blowup) ms points →
        AllByRecursion (IsOfLowDegree k blowup) ms
    batch-low [] [] points extended openable = tt
    batch-low [] (m ∷ ms) points extended openable = absurd extended
    batch-low (t ∷ ts) [] points extended openable = absurd extended
    batch-low (t ∷ ts) (m ∷ ms) [] extended openable = absurd openable
    batch-low (t ∷ ts) (m ∷ ms) (p ∷ points) extended openable = (
      extended-low (lists t.rows.items) m extended.0 openable.0.power,
      batch-low ts ms points extended.1 openable.1,
    )

    -- so is all that is requested of batches that were committed to
    all-low : (mmcs : ShaMmcs Mersenne31) (bs : List (Vec Trace Global)) (cs : List Committed)
        (rs : List (OpeningRequest preset.Kept Cubic)) → AreCommitted mmcs blowup bs cs →
        AllZip IsRequested cs rs → AllByRecursion (IsFit kept k blowup k.two_adicity) rs →
        AllByRecursion (λ r. All (IsOfLowDegree k blowup) (kept r.prover_data.now)) rs
    all-low mmcs bs cs [] committed asked fit = tt
    all-low mmcs bs [] (r ∷ rs) committed asked fit = absurd asked
    all-low mmcs [] (c ∷ cs) (r ∷ rs) committed asked fit = absurd committed
    all-low mmcs (b ∷ bs) (c ∷ cs) (r ∷ rs) committed asked fit =
        let extended =
        subst (AllZip (λ (t : Trace) made. IsExtended blowup (lists t.rows.items) made) b.items)
        (sym asked.0.matrices) committed.0.extended in (
          All-from_recursion (IsOfLowDegree k blowup) (kept r.prover_data.now)
              (batch-low b.items (kept r.prover_data.now) (lists_of r.points.items) extended fit.0),
          all-low mmcs bs cs rs committed.1 asked.1 fit.1,
        )

  module _ (mmcs : ShaMmcs Mersenne31) where
    -- so of all batches
    all-claimed : {M : Type 0} (p : FriParameters M) → blowup ≡ p.log_blowup →
        (bs : List (Vec Trace Global)) (cs : List Committed)
        (rs : List (OpeningRequest preset.Kept Cubic)) (vs : Openings Cubic) →
        AreCommitted mmcs blowup bs cs → AllZip IsRequested cs rs →
        AllByRecursion (IsFit kept k blowup k.two_adicity) rs → length vs ≡ length cs →
        AreClaimed k p kept (Commits mmcs) rs vs (pairwise batch_claimed cs vs)
    all-claimed p same [] [] [] [] committed asked fit long = tt
    all-claimed p same [] [] [] (v ∷ vs) committed asked fit long = absurd (omega (arith, long))
    all-claimed p same [] [] (r ∷ rs) vs committed asked fit long = absurd asked
    all-claimed p same [] (c ∷ cs) rs vs committed asked fit long = absurd committed
    all-claimed p same (b ∷ bs) [] rs vs committed asked fit long = absurd committed
    all-claimed p same (b ∷ bs) (c ∷ cs) [] vs committed asked fit long = absurd asked
    all-claimed p same (b ∷ bs) (c ∷ cs) (r ∷ rs) [] committed asked fit long =
        absurd (omega (arith, long))
    all-claimed p same (b ∷ bs) (c ∷ cs) (r ∷ rs) (v ∷ vs) committed asked fit long =
        let is : IsCommitted mmcs blowup b.items c = committed.0 in
        let wanted : IsRequested c r = asked.0 in
        let traces = c.traces.now in
        let openable : AllZip (IsOpenable k k.two_adicity blowup) (matrices_of c.kept)
        (points_of traces) =
        subst (λ ps. AllZip (IsOpenable k k.two_adicity blowup) (matrices_of c.kept) ps)
        wanted.points
        (subst (λ ms. AllZip (IsOpenable k k.two_adicity blowup) ms (lists_of r.points.items))
        wanted.matrices fit.0) in
        let fitting =
        recursion_from_All HasFittingRows traces
        (subst (All HasFittingRows) (sym is.given) is.fitting) in
        let extended =
        subst
        (λ ts. AllZip (λ t made. IsExtended blowup (lists t.rows.items) made) ts
        (matrices_of c.kept)) (sym is.given) is.extended in
        let first : IsClaimed k p kept (Commits mmcs) r v (batch_claimed c v) = record {
          committed =
              subst (λ ms. Commits mmcs ms c.commitment) (sym wanted.matrices) is.commitment;
          matrices =
              subst (λ n. pairwise matrix_claimed traces v
              ≡ map (claimed n)
              (batch_committed k n (kept r.prover_data.now) (lists_of r.points.items) v)) same
              (batch-claimed traces (matrices_of c.kept) v fitting extended openable
              ∙ ap (λ ms. map (claimed blowup) (batch_committed k blowup ms (points_of traces) v))
              (sym wanted.matrices)
              ∙ ap
              (λ ps. map (claimed blowup)
              (batch_committed k blowup (kept r.prover_data.now) ps v)) (sym wanted.points));
        } in
        (first, all-claimed p same bs cs rs vs committed.1 asked.1 fit.1 (omega (arith, long)))

    all-pointed : (bs : List (Vec Trace Global)) (cs : List Committed)
        (rs : List (OpeningRequest preset.Kept Cubic)) (vs : Openings Cubic) →
        AllByRecursion (λ b. All (λ t. 1 ≤ length t.points.items) b.items) bs →
        AreCommitted mmcs blowup bs cs → AllZip IsRequested cs rs →
        AllZip (AreAnswers kept k blowup) rs vs →
        AllByRecursion (λ m. 1 ≤ length m.claims) (all_matrices (pairwise batch_claimed cs vs))
    all-pointed bs [] rs vs some committed asked are = tt
    all-pointed bs (c ∷ cs) rs [] some committed asked are = tt
    all-pointed [] (c ∷ cs) rs (v ∷ vs) some committed asked are = absurd committed
    all-pointed (b ∷ bs) (c ∷ cs) [] (v ∷ vs) some committed asked are = absurd asked
    all-pointed (b ∷ bs) (c ∷ cs) (r ∷ rs) (v ∷ vs) some committed asked are =
        let is : IsCommitted mmcs blowup b.items c = committed.0 in
        let wanted : IsRequested c r = asked.0 in
        let traces = c.traces.now in
        let pointed =
        recursion_from_All (λ t. 1 ≤ length t.points.items) traces
        (subst (All (λ t. 1 ≤ length t.points.items)) (sym is.given) some.0) in
        let values : AllZip (λ m rest. AreValuesOf k blowup m rest.0 rest.1)
        (kept r.prover_data.now) (zip (points_of traces) v) =
        subst
        (λ ps. AllZip (λ m rest. AreValuesOf k blowup m rest.0 rest.1) (kept r.prover_data.now)
        (zip ps v)) wanted.points are.0.0 in
        both (λ (m : MatrixClaim Cubic). 1 ≤ length m.claims) (pairwise matrix_claimed traces v)
        (all_matrices (pairwise batch_claimed cs vs))
        (batch-pointed traces (kept r.prover_data.now) v pointed values)
        (all-pointed bs cs rs vs some.1 committed.1 asked.1 are.1)

module _ (input : Input) (output : Claims) (committed : List Committed)
    (requests : List (OpeningRequest preset.Kept Cubic)) (values : Openings Cubic)
    (asked : AllZip IsRequested committed requests) where
  -- where each matrix has a point
  pub verified : (mmcs : ShaMmcs Mersenne31) (scheme : ShaMmcs Cubic) (old new : List ℕ)
      (p : FriParameters (ShaMmcs Cubic)) → p ≡ with_scheme input.params scheme → AreFit p →
      p.max_log_arity ≡ 1 →
      AreRequests kept preset.schemes.fields preset.schemes.fields.two_adicity p requests →
      AreCommitted mmcs p.log_blowup input.batches.items committed →
      AllZip (AreAnswers kept preset.schemes.fields p.log_blowup) requests values →
      IsOpening p kept requests values preset.schemes.fields preset.schemes.run
      (proof_of output.proof) (Commits mmcs) (preset.schemes.authenticates mmcs)
      (preset.schemes.WordCommits scheme) (preset.schemes.word_authenticates scheme) old new →
      batches_told output.batches.items ≡ pairwise batch_claimed committed values →
      output.params ≡ input.params → HavePoints input → IsVerifiedFrom output old new
  verified mmcs scheme old new p same fit arity wanted batches answers opening told kept_params
      some =
      let k = preset.schemes.fields in
      let authenticates = preset.schemes.authenticates mmcs in
      let word_authenticates = preset.schemes.word_authenticates scheme in
      let long = AllZip-long IsRequested committed requests asked in
      let answered = AllZip-long (AreAnswers kept k p.log_blowup) requests values answers in
      let as_many : length values ≡ length committed = omega (arith, long, answered) in
      let claims = pairwise batch_claimed committed values in
      let fits = recursion_from_All (IsFit kept k p.log_blowup k.two_adicity) requests wanted.fit in
      let low =
      All-from_recursion
      (λ (r : OpeningRequest preset.Kept Cubic). All (IsOfLowDegree k p.log_blowup)
      (kept r.prover_data.now)) requests
      (all-low k p.log_blowup refl refl mmcs input.batches.items committed requests batches asked
      fits) in
      let claimed_all = all-claimed k p.log_blowup mmcs p refl input.batches.items committed
      requests values batches asked fits as_many in
      let pointed = All-from_recursion (λ (m : MatrixClaim Cubic). 1 ≤ length m.claims)
      (all_matrices claims)
      (all-pointed k p.log_blowup mmcs input.batches.items committed requests values
      (recursion_from_All
      (λ (b : Vec Trace Global). All (λ t. 1 ≤ length t.points.items) b.items)
      input.batches.items some) batches asked answers) in
      let accepted : AcceptsFrom k p preset.schemes.run authenticates word_authenticates claims
      (proof_of output.proof) old new =
      accepts-openings k base-laws laws is_embedding are_generators (lit≤ tt) preset.schemes.run
      (λ s bits h. number-below s bits) p kept (Commits mmcs) authenticates
      (preset.schemes.WordCommits scheme) word_authenticates requests fit arity wanted
      (low-read k p kept requests low) values answers (proof_of output.proof) old new opening claims
      claimed_all pointed in
      record {
        mmcs = mmcs;
        scheme = scheme;
        accepts =
            subst
            (λ (q : FriParameters (ShaMmcs Cubic)). AcceptsFrom k q preset.schemes.run authenticates
            word_authenticates (batches_told output.batches.items) (proof_of output.proof) old new)
            (same ∙ ap (λ ps. with_scheme ps scheme) (sym kept_params))
            (subst
            (λ bs. AcceptsFrom k p preset.schemes.run authenticates word_authenticates bs
            (proof_of output.proof) old new) (sym told) accepted);
      }

-- claims of what was opened have the commitments to it
pub commitments-opened : (input : Input) (output : Claims) (committed : List Committed)
    (old new : List ℕ) → AreOpened input output committed old new →
    commitments_of output ≡ map (λ c. c.commitment) committed
commitments-opened input output committed old new is =
    let long = AllZip-long IsRequested committed is.requests is.asked in
    let answered =
    AllZip-long (AreAnswers kept preset.schemes.fields input.params.log_blowup) is.requests
    is.values is.answered in
    same-commitments committed is.values output.batches.items (omega (arith, long, answered))
    is.claims
