-- What is returned for matrices of low degree is true, so the codewords of their opening end in the
-- values of a final polynomial.
use Rattle.std.specs.Prelude.{◌≡◌, ◌↔◌, ℕ, ◌+◌, ◌-◌, ◌^◌, ◌<◌, ◌≤◌, Bool, true, List, [], ◌∷◌}
use Rattle.std.specs.Prelude.{length, map, flat_map, zip, All, slice_index_or}
use Rattle.std.specs.List.{AllByRecursion, AllZip}
use Rattle.std.proofs.Common.{sym, ◌∙◌, ap, subst, arith, inl, inr}
use Rattle.std.proofs.lemmas.List.{length-map}
use Rattle.std.proofs.lemmas.List.Elements.{All-from_recursion, recursion_from_All}
use Rattle.circle_field.specs.Field.{FieldLaws, IsEmbedding}
use Rattle.circle_field.specs.Circle.{Coordinates, AreGenerators}
use Rattle.circle_point.specs.Basis.{value}
use Rattle.circle_point.specs.Projective.{from_line}
use Rattle.circle_point.proofs.Bases.{shifted}
use Rattle.circle_commit.specs.DotProduct.{pairwise}
use Rattle.circle_commit.specs.Matrix.{column}
use Rattle.circle_challenger.specs.Moves.{RunMoves}
use Rattle.circle_commit.specs.Pcs.{Openings}
use Rattle.circle_commit.specs.RowMajorMatrix.{width_of, height_of}
use Rattle.circle_commit.specs.declared.matrix.RowMajorMatrix.{RowMajorMatrix}
use Rattle.circle_commit.specs.declared.params.FriParameters.{FriParameters}
use Rattle.circle_commit.specs.declared.pcs.OpeningRequest.{OpeningRequest}
use Rattle.circle_commit.proofs.Written.{length-pairwise, pairwise-read}
use Rattle.circle_domain.specs.Order.{cfft_order}
use Rattle.circle_domain.specs.Values.{values_at, lifted_values_at}
use Rattle.circle_domain.proofs.Blocks.{all-append}
use Rattle.circle_domain.proofs.Stored.{column-values}
use Rattle.circle_domain.proofs.Told.{values-tell}
use Rattle.circle_relation.specs.Accepts.{Fields}
use Rattle.circle_codewords.specs.Values.{OpensTo}
use Rattle.circle_codewords.specs.Words.{claim_of}
use Rattle.circle_codewords.proofs.Prefix.{first-genuine, off-apart}
use Rattle.circle_prover.specs.Opening.{answered_matrices}
use Rattle.circle_codewords.specs.Requests.{AreAnswers, AreFit, AreRequests, AreValuesOf, IsFit}
use Rattle.circle_codewords.specs.Requests.{IsOpenable, all_committed, batch_committed, committed}
use Rattle.circle_codewords.specs.Requests.{log_of, points_of}
use Rattle.circle_prover.specs.Words.{top_of}
use Rattle.circle_prover.proofs.Answered.{all-some, fit-known, heights-known}
use Rattle.circle_prover.proofs.Tops.{top-known}
use Rattle.circle_completeness.specs.Honest.{IsOfLowDegree, EndsLow, IsNeverTooHigh}
use Rattle.circle_completeness.specs.LowDegree.{IsTrueClaim, IsTrue}
use Rattle.circle_completeness.proofs.LastWords.{last-low}
use Rattle.circle_completeness.proofs.ReadRows.{first-values, low-degree}

module _ {F E : Type 0} (k : Fields F E) (base : FieldLaws k.field) (laws : FieldLaws k.extension)
    (e : IsEmbedding k.field k.extension k.embed)
    {bits : ℕ} (gens : AreGenerators k.field bits k.gen) (blowup : ℕ) where
  -- coefficients with the same values on the first points have the same values off the domain
  same-values : (n h width : ℕ) (c others : List (List F)) (q : Coordinates E) → 1 ≤ n → n ≤ h →
      h < bits → length c ≡ 2 ^ n → length others ≡ 2 ^ n →
      map (values_at k.field c width) (cfft_order k.field k.gen n (k.gen (h + 1)))
      ≡ map (values_at k.field others width) (cfft_order k.field k.gen n (k.gen (h + 1))) →
      lifted_values_at k.field.zero k.extension k.embed c width q
      ≡ lifted_values_at k.field.zero k.extension k.embed others width q
  same-values n h width c others q positive within below long long' same =
      let s = k.gen (h + 1) in
      let points = cfft_order k.field k.gen n s in
      let col = λ (d : List (List F)) (j : ℕ). column k.field.zero d j in
      let genuine = first-genuine base gens n h positive within below in
      let of_column : (j : ℕ) → j < width → col c j ≡ col others j = λ j lt.
      values-tell base gens n s (omega (arith, within, below))
      (gens.on_circle (h + 1) (omega (arith, below))) genuine.1 (col c j) (col others j)
      positive
      (length-map c _ ∙ long) (length-map others _ ∙ long')
      (sym (column-values k.field width 0 (omega (arith, lt)) c points j lt)
      ∙ ap (λ rs. column k.field.zero rs j) same
      ∙ column-values k.field width 0 (omega (arith, lt)) others points j lt) in
      shifted (λ j. value k.extension (map k.embed (col c j)) q)
      (λ j. value k.extension (map k.embed (col others j)) q) 0 0 width
      (λ j lt. let z : 0 + j ≡ j = omega arith in
      ap (λ i. value k.extension (map k.embed (col c i)) q) z
      ∙ ap (λ d. value k.extension (map k.embed d) q) (of_column j lt)
      ∙ ap (λ i. value k.extension (map k.embed (col others i)) q) (sym z))

  -- what is returned for a matrix of low degree at a point
  pub opens-true : (m : RowMajorMatrix F) (low : IsOfLowDegree k blowup m) (t : E)
      (values : List E) → blowup < log_of (height_of m) → log_of (height_of m) < bits →
      OpensTo k blowup (log_of (height_of m)) m t values →
      values ≡ lifted_values_at k.field.zero k.extension k.embed low.coeffs (width_of m)
      (from_line k.extension t)
  opens-true m low t values below fits opens =
      let h = log_of (height_of m) in
      opens.at_point
      ∙ same-values (h - blowup) h (width_of m) opens.coeffs low.coeffs (from_line k.extension t)
      (omega (arith, below)) (omega arith) fits opens.told.height low.count
      (opens.told.values ∙ first-values k blowup m low below)

  -- of a matrix at all its points
  committed-true : (m : RowMajorMatrix F) (points : List E) (values : List (List E)) →
      IsOfLowDegree k blowup m → IsOpenable k bits blowup m points →
      AreValuesOf k blowup m points values →
      IsTrue k blowup (committed k blowup m points values)
  committed-true m points values low openable are =
      let h = log_of (height_of m) in
      let c = committed k blowup m points values in record {
        width = width_of m;
        coeffs = low.coeffs;
        columns =
            record {
              count = low.count;
              values =
                  low.values
                  ∙ sym (low-degree k blowup base gens m low openable.blowup openable.in_group);
            };
        claims = λ i d lt.
            let within : i < length points =
            omega (arith, lt, length-pairwise claim_of points values (sym are.count)) in
            let t = slice_index_or points i k.extension.zero in
            let v = slice_index_or values i [] in
            let read : slice_index_or (pairwise claim_of points values) i d ≡ claim_of t v =
            pairwise-read claim_of points values i k.extension.zero [] d within
            (omega (arith, within, are.count)) in
            let finite = openable.off.0 i k.extension.zero within in
            let true_claim : IsTrueClaim k blowup c (width_of m) low.coeffs (claim_of t v) =
            record {
              finite = finite;
              apart = off-apart base laws e gens h t (omega (arith, openable.blowup))
                  (omega (arith, openable.in_group)) finite
                  (openable.off.1 i k.extension.zero within);
              values =
                  opens-true m low t v openable.blowup openable.in_group
                  (are.opened i k.extension.zero within);
            } in
            subst (IsTrueClaim k blowup c (width_of m) low.coeffs) (sym read) true_claim;
      }

  batch-true : (ms : List (RowMajorMatrix F)) (points : List (List E))
      (values : List (List (List E))) → AllByRecursion (IsOfLowDegree k blowup) ms →
      AllZip (IsOpenable k bits blowup) ms points →
      AllZip (λ m rest. AreValuesOf k blowup m rest.0 rest.1) ms (zip points values) →
      AllByRecursion (IsTrue k blowup) (batch_committed k blowup ms points values)
  batch-true [] points values low openable are = tt
  batch-true (m ∷ ms) [] values low openable are = tt
  batch-true (m ∷ ms) (t ∷ points) [] low openable are = tt
  batch-true (m ∷ ms) (t ∷ points) (v ∷ values) low openable are = (
    committed-true m t v low.0 openable.0 are.0,
    batch-true ms points values low.1 openable.1 are.1,
  )

  module _ {D : Type 0} (kept : D → List (RowMajorMatrix F)) where
    all-true : (requests : List (OpeningRequest D E)) (values : Openings E) →
        AllByRecursion (λ r. All (IsOfLowDegree k blowup) (kept r.prover_data.now)) requests →
        AllByRecursion (IsFit kept k blowup bits) requests →
        AllZip (AreAnswers kept k blowup) requests values →
        AllByRecursion (IsTrue k blowup)
        (flat_map (λ b. b) (all_committed kept k blowup requests values))
    all-true [] values low fit are = tt
    all-true (r ∷ requests) [] low fit are = tt
    all-true (r ∷ requests) (v ∷ values) low fit are =
        all-append (IsTrue k blowup)
        (batch_committed k blowup (kept r.prover_data.now) (points_of kept r) v)
        (flat_map (λ b. b) (all_committed kept k blowup requests values))
        (batch-true (kept r.prover_data.now) (points_of kept r) v
        (recursion_from_All (IsOfLowDegree k blowup) (kept r.prover_data.now) low.0) fit.0
        are.0.0)
        (all-true requests values low.1 fit.1 are.1)

    -- all results
    pub answers-true : (requests : List (OpeningRequest D E)) (values : Openings E) →
        All (λ r. All (IsOfLowDegree k blowup) (kept r.prover_data.now)) requests →
        All (IsFit kept k blowup bits) requests →
        AllZip (AreAnswers kept k blowup) requests values →
        All (IsTrue k blowup) (flat_map (λ b. b) (all_committed kept k blowup requests values))
    answers-true requests values low fit are =
        All-from_recursion (IsTrue k blowup)
        (flat_map (λ b. b) (all_committed kept k blowup requests values))
        (all-true requests values
        (recursion_from_All
        (λ (r : OpeningRequest D E). All (IsOfLowDegree k blowup) (kept r.prover_data.now))
        requests low)
        (recursion_from_All (IsFit kept k blowup bits) requests fit) are)

-- the codeword that the rounds end in
pub ends-low : {D F E M : Type 0} (k : Fields F E) (base : FieldLaws k.field)
    (laws : FieldLaws k.extension) (e : IsEmbedding k.field k.extension k.embed)
    (base_eq : F → F → Bool) (base_law : (a b : F) → (base_eq a b ≡ true) ↔ (a ≡ b))
    (eq : E → E → Bool) (eq_law : (a b : E) → (eq a b ≡ true) ↔ (a ≡ b))
    {bits : ℕ} (gens : AreGenerators k.field bits k.gen) (kept : D → List (RowMajorMatrix F))
    (p : FriParameters M) (requests : List (OpeningRequest D E)) →
    AreFit p → AreRequests kept k bits p requests → EndsLow kept k p requests
ends-low k base laws e base_eq base_law eq eq_law {bits} gens kept p requests fit asked low values
    are alpha bivariate betas =
    let ms = answered_matrices k p kept requests values in
    let some = all-some k p.log_blowup kept requests values are asked.some asked.matrices in
    let top_fits : top_of ms < bits =
    top-known ms (λ h. h < bits) some
    (heights-known k p.log_blowup (λ h. h < bits) kept requests values
    (fit-known kept k p.log_blowup bits (λ m. log_of (height_of m) < bits)
    (λ m points openable. openable.in_group) requests asked.fit)) in
    let tall : p.log_blowup + p.log_final_poly_len + 2 ≤ top_of ms =
    top-known ms (λ h. p.log_blowup + p.log_final_poly_len + 2 ≤ h) some
    (heights-known k p.log_blowup (λ h. p.log_blowup + p.log_final_poly_len + 2 ≤ h) kept
    requests values asked.tall) in
    last-low k base laws e base_eq base_law eq eq_law gens p.log_blowup fit.blowup alpha ms
    bivariate p.log_final_poly_len betas
    (answers-true k base laws e gens p.log_blowup kept requests values low asked.fit are) top_fits
    (omega (arith, tall))

-- so none is refused for a last codeword of too high degree
pub never-too-high : {C S D F E M WC : Type 0} (k : Fields F E) (base : FieldLaws k.field)
    (laws : FieldLaws k.extension) (e : IsEmbedding k.field k.extension k.embed)
    (base_eq : F → F → Bool) (base_law : (a b : F) → (base_eq a b ≡ true) ↔ (a ≡ b))
    (eq : E → E → Bool) (eq_law : (a b : E) → (eq a b ≡ true) ↔ (a ≡ b))
    {bits : ℕ} (gens : AreGenerators k.field bits k.gen) (kept : D → List (RowMajorMatrix F))
    (p : FriParameters M) (requests : List (OpeningRequest D E)) →
    AreFit p → AreRequests kept k bits p requests →
    (r : RunMoves C S F E WC) (Commits : List (RowMajorMatrix E) → WC → Type 0) →
    IsNeverTooHigh kept k p requests r Commits
never-too-high k base laws e base_eq base_law eq eq_law gens kept p requests fit asked r Commits low
    s failure why is =
    elim why [
      | inl memory ↦ cc
      | inr rest ↦
          elim rest.2 [
            | inl high ↦
                high.1.none
                (ends-low k base laws e base_eq base_law eq eq_law gens kept p requests fit
                asked low rest.0 rest.1 high.1.alpha high.1.bivariate high.1.betas)
            | inr stuck ↦ let phase = stuck.1 in cc
          ]
    ]
