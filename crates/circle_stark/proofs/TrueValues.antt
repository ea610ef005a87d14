-- What is opened of a trace and of its quotient's chunks are the values of polynomials with the
-- rows that were committed to.
use Rattle.std.specs.Prelude.{◌≡◌, ℕ, List, [], ◌∷◌, length, map, All, Some}
use Rattle.std.specs.Prelude.{replicate, slice_get, slice_index_or}
use Rattle.std.specs.List.{AllByRecursion, AllZip, range_with_len}
use Rattle.std.proofs.Common.{zero, suc, refl, sym, ◌∙◌, ap, subst, arith}
use Rattle.std.proofs.lemmas.List.{length-map, length-replicate}
use Rattle.std.proofs.lemmas.List.Elements.{All-nil, All-cons}
use Rattle.std.proofs.lemmas.List.FromFn.{length-range_with_len}
use Rattle.circle_codewords.specs.Requests.{AreAnswers}
use Rattle.circle_commit.specs.Honest.{AreTrueValues, requested_points}
use Rattle.circle_commit.specs.RowMajorMatrix.{rows, width_of}
use Rattle.circle_commit.specs.declared.matrix.RowMajorMatrix.{RowMajorMatrix}
use Rattle.circle_commit.specs.declared.pcs.OpeningRequest.{OpeningRequest}
use Rattle.circle_domain.specs.Domain.{log_size, shift_of}
use Rattle.circle_domain.specs.Values.{lifted_values_at}
use Rattle.circle_domain.specs.declared.domain.CircleDomain.{CircleDomain}
use Rattle.circle_field.specs.Circle.{Coordinates}
use Rattle.circle_field.specs.declared.field.Operations.{Ghosts}
use Rattle.circle_point.specs.Projective.{from_line}
use Rattle.circle_relation.specs.Accepts.{Fields}
use Rattle.p3_circle.specs.Committing.{HaveNaturalValues}
use Rattle.p3_circle.specs.Honest.{AreValuesOfBatch, AreValuesOfRows}
use Rattle.circle_stark.specs.Opened.{opened_lists}
use Rattle.circle_stark.specs.Statement.{OpenedValues}
use Rattle.circle_stark.proofs.Heads.{heads, rests}
use Rattle.circle_stark.proofs.OpenedClaims.{Batch}

related-length : {A B : Type 0} (R : A → B → Type 0) (xs : List A) (ys : List B) →
    AllZip R xs ys → length ys ≡ length xs
related-length R [] [] all = refl
related-length R [] (y ∷ ys) all = absurd all
related-length R (x ∷ xs) [] all = absurd all
related-length R (x ∷ xs) (y ∷ ys) all =
    let rest = related-length R xs ys all.1 in omega (arith, rest)

-- the values at the point of zeta, by the coefficients of `degree` columns
abbrev pub opened_of : {F E : Type 0} → Fields F E → ℕ → E → List (List F) → List E
opened_of k degree zeta c =
    lifted_values_at k.field.zero k.extension k.embed c degree (from_line k.extension zeta)

module _ {F E : Type 0} (k : Fields F E) (degree : ℕ) (zeta : E) where
  opened-long : (c : List (List F)) → length (opened_of k degree zeta c) ≡ degree
  opened-long c = length-map (range_with_len 0 degree) _ ∙ length-range_with_len 0 degree

  all-long : (cs : List (List (List F))) →
      All (λ chunk. length chunk ≡ degree) (map (opened_of k degree zeta) cs)
  all-long [] = All-nil (λ chunk. length chunk ≡ degree)
  all-long (c ∷ cs) =
      All-cons (λ chunk. length chunk ≡ degree) (opened_of k degree zeta c)
      (map (opened_of k degree zeta) cs) (opened-long c) (all-long cs)

module _ {F E : Type 0} {g : Ghosts F} (k : Fields F E) (n degree : ℕ) (zeta : E) where
  -- coefficients whose polynomials have the rows of a part as values on its domain
  abbrev pub HasCoefficients : CircleDomain F g × RowMajorMatrix F → List (List F) → Type 0
  HasCoefficients c coeffs =
      HaveNaturalValues k.field k.gen n (shift_of c.0) degree coeffs (rows c.1)

  -- each chunk's values are those of coefficients for its part
  pub record AreOfCoefficients (batch : Batch F g) (chunks : List (List E)) : Type 0 where
    pub coeffs : List (List (List F))
    pub has : AllZip HasCoefficients batch coeffs
    pub opened : chunks ≡ map (opened_of k degree zeta) coeffs

  one-part : (x : CircleDomain F g × RowMajorMatrix F) (chunk : List E) → log_size x.0 ≡ n →
      width_of x.1 ≡ degree → AreValuesOfRows k x (zeta ∷ []) (chunk ∷ []) →
      (coeffs : List (List F)) × HasCoefficients x coeffs × (chunk ≡ opened_of k degree zeta coeffs)
  one-part x chunk size width of_rows = (
    of_rows.coeffs,
    subst (λ i. HaveNaturalValues k.field k.gen i (shift_of x.0) degree of_rows.coeffs
        (rows x.1)) size
        (subst (λ w. HaveNaturalValues k.field k.gen (log_size x.0) (shift_of x.0) w of_rows.coeffs
        (rows x.1)) width of_rows.told),
    of_rows.values.0
        ∙ ap (λ w. lifted_values_at k.field.zero k.extension k.embed of_rows.coeffs w
        (from_line k.extension zeta)) width,
  )

  pub of-batch : (batch : Batch F g) (count : ℕ) (chunks : List (List E)) →
      AllByRecursion (λ c. log_size c.0 ≡ n) batch →
      AllByRecursion (λ c. width_of c.1 ≡ degree) batch → length batch ≡ count →
      length chunks ≡ count →
      AreValuesOfBatch k batch (replicate count (zeta ∷ [])) (map (λ c. c ∷ []) chunks) →
      AreOfCoefficients batch chunks
  of-batch [] zero [] sizes widths long as_long are =
      record { coeffs = []; has = tt; opened = refl }
  of-batch [] zero (c ∷ chunks) sizes widths long as_long are = absurd (omega (arith, as_long))
  of-batch [] (suc count) chunks sizes widths long as_long are = absurd (omega (arith, long))
  of-batch (x ∷ batch) zero chunks sizes widths long as_long are = absurd (omega (arith, long))
  of-batch (x ∷ batch) (suc count) [] sizes widths long as_long are =
      absurd (omega (arith, as_long))
  of-batch (x ∷ batch) (suc count) (c ∷ chunks) sizes widths long as_long are =
      let first = one-part x c sizes.0 widths.0 are.0 in
      let rest = of-batch batch count chunks sizes.1 widths.1 (omega (arith, long))
      (omega (arith, as_long)) are.1 in
      record {
        coeffs = first.0 ∷ rest.coeffs;
        has = (first.1, rest.has);
        opened =
            ap (λ h. h ∷ chunks) first.2
            ∙ ap (λ t. opened_of k degree zeta first.0 ∷ t) rest.opened;
      }

  -- at each place coefficients of the part there
  pub parts-at : (batch : Batch F g) (coeffs : List (List (List F))) →
      AllZip HasCoefficients batch coeffs → (j : ℕ) (s : Coordinates F) →
      slice_get (map (λ c. shift_of c.0) batch) j ≡ Some s →
      HaveNaturalValues k.field k.gen n s degree (slice_index_or coeffs j [])
      (slice_index_or (map (λ c. rows c.1) batch) j [])
  parts-at [] [] all j s there = absurd (cc)
  parts-at [] (co ∷ coeffs) all j s there = absurd all
  parts-at (c ∷ batch) [] all j s there = absurd all
  parts-at (c ∷ batch) (co ∷ coeffs) all zero s there =
      subst (λ t. HaveNaturalValues k.field k.gen n t degree co (rows c.1))
      (let same : shift_of c.0 ≡ s = cc in same) all.0
  parts-at (c ∷ batch) (co ∷ coeffs) all (suc j) s there = parts-at batch coeffs all.1 j s there

  -- as many chunks as there are parts, each of as many values as an element has coefficients
  pub chunks-long : (batch : Batch F g) (chunks : List (List E)) →
      AreOfCoefficients batch chunks → length chunks ≡ length batch
  chunks-long batch chunks are =
      ap length are.opened ∙ length-map are.coeffs (opened_of k degree zeta)
      ∙ related-length HasCoefficients batch are.coeffs are.has

  pub chunks-wide : (batch : Batch F g) (chunks : List (List E)) →
      AreOfCoefficients batch chunks → All (λ chunk. length chunk ≡ degree) chunks
  chunks-wide batch chunks are =
      subst (All (λ chunk. length chunk ≡ degree)) (sym are.opened)
      (all-long k degree zeta are.coeffs)

-- what is opened by two requests
module _ {D F E IC : Type 0} {g : Ghosts F} (k : Fields F E) (td qd : D)
    (commits : Batch F g → IC → D → Type 0) (zeta next : E) (count : ℕ) (v : OpenedValues E) where
  -- the values are those of the trace's rows, and of the chunks'
  pub record AreTrueOf (trace chunks : Batch F g) : Type 0 where
    pub of_trace :
        AreValuesOfBatch k trace ((zeta ∷ next ∷ []) ∷ []) ((v.local ∷ v.next ∷ []) ∷ [])
    pub of_chunks :
        AreValuesOfBatch k chunks (replicate count (zeta ∷ [])) (map (λ c. c ∷ []) v.chunks)

  pub true-of : (trace chunks : Batch F g) (tc qc : IC) → commits trace tc td →
      commits chunks qc qd → (requests : List (OpeningRequest D E)) →
      map (λ q. q.prover_data.now) requests ≡ td ∷ qd ∷ [] →
      map requested_points requests
      ≡ ((zeta ∷ next ∷ []) ∷ []) ∷ replicate count (zeta ∷ []) ∷ [] →
      AreTrueValues commits (AreValuesOfBatch k) requests (opened_lists v) →
      AreTrueOf trace chunks
  true-of trace chunks tc qc first second [] named points are =
      absurd (let l = ap length named in omega (arith, l))
  true-of trace chunks tc qc first second (q ∷ []) named points are =
      absurd (let l = ap length named in omega (arith, l))
  true-of trace chunks tc qc first second (q ∷ s ∷ []) named points are =
      let d = rests _ _ _ _ named in
      let t = rests _ _ _ _ points in record {
        of_trace = subst
            (λ ps. AreValuesOfBatch k trace ps ((v.local ∷ v.next ∷ []) ∷ []))
            (heads _ _ _ _ points)
            (are.0 trace tc (subst (commits trace tc) (sym (heads _ _ _ _ named)) first));
        of_chunks = subst
            (λ ps. AreValuesOfBatch k chunks ps (map (λ c. c ∷ []) v.chunks))
            (heads _ _ _ _ t)
            (are.1.0 chunks qc (subst (commits chunks qc) (sym (heads _ _ _ _ d)) second));
      }
  true-of trace chunks tc qc first second (q ∷ s ∷ o ∷ rest) named points are =
      absurd (let l = ap length named in omega (arith, l))

-- as many chunks are opened as points are requested
module _ {D F E : Type 0} (k : Fields F E) (blowup : ℕ) (kept : D → List (RowMajorMatrix F))
    (zeta next : E) (count : ℕ) (v : OpenedValues E) where
  pub counted : (requests : List (OpeningRequest D E)) → map requested_points requests
      ≡ ((zeta ∷ next ∷ []) ∷ []) ∷ replicate count (zeta ∷ []) ∷ [] →
      AllZip (AreAnswers kept k blowup) requests (opened_lists v) → length v.chunks ≡ count
  counted [] points are = absurd are
  counted (q ∷ []) points are = absurd are.1
  counted (q ∷ s ∷ []) points are =
      let own = heads _ _ _ _ (rests _ _ _ _ points) in
      sym (length-map v.chunks (λ c. c ∷ [])) ∙ are.1.0.1 ∙ ap length own
      ∙ length-replicate count (zeta ∷ [])
  counted (q ∷ s ∷ o ∷ rest) points are = absurd are.1.1
