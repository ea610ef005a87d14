-- What an opening returns for batches that were committed to: true values, and claims that are
-- accepted.
use Rattle.std.specs.Prelude.{◌≡◌, ℕ, ◌+◌, ◌-◌, ◌^◌, ◌<◌, ◌≤◌, List, [], ◌∷◌, length, map, zip, All}
use Rattle.std.specs.Prelude.{slice_index_or}
use Rattle.std.specs.List.{AllByRecursion, AllZip}
use Rattle.std.proofs.Common.{suc, refl, sym, ◌∙◌, ap, arith}
use Rattle.std.proofs.lemmas.List.Elements.{All-from_recursion}
use Rattle.circle_commit.specs.DotProduct.{pairwise}
use Rattle.circle_commit.specs.Pcs.{Openings}
use Rattle.circle_commit.specs.RowMajorMatrix.{width_of, height_of}
use Rattle.circle_commit.specs.declared.matrix.RowMajorMatrix.{RowMajorMatrix}
use Rattle.circle_commit.specs.declared.params.FriParameters.{FriParameters}
use Rattle.circle_commit.specs.declared.pcs.CommitmentOpening.{CommitmentOpening}
use Rattle.circle_commit.specs.declared.pcs.MatrixOpening.{MatrixOpening}
use Rattle.circle_commit.specs.declared.pcs.OpeningRequest.{OpeningRequest}
use Rattle.circle_commit.specs.declared.pcs.PointOpening.{PointOpening}
use Rattle.circle_completeness.specs.Honest.{AreOfLowDegree, IsOfLowDegree}
use Rattle.circle_completeness.proofs.TrueAnswers.{opens-true}
use Rattle.circle_domain.specs.Domain.{log_size}
use Rattle.circle_domain.specs.Values.{lifted_values_at, values_at}
use Rattle.circle_domain.specs.declared.domain.CircleDomain.{CircleDomain}
use Rattle.circle_domain.proofs.Blocks.{all-append}
use Rattle.circle_domain.proofs.Powers.{pow_injective}
use Rattle.circle_field.specs.declared.field.Operations.{Ghosts}
use Rattle.circle_field.specs.Circle.{AreGenerators}
use Rattle.circle_field.specs.Field.{FieldLaws, IsEmbedding}
use Rattle.circle_codewords.specs.Requests.{AreAnswers, AreRequests, AreValuesOf, IsFit, IsOpenable}
use Rattle.circle_codewords.specs.Requests.{batch_committed, claimed, committed, log_of, points_of}
use Rattle.circle_completeness.specs.Claimed.{AreClaimed}
use Rattle.circle_commit.specs.Honest.{AreAnsweredBy, AreClaimedOf, IsClaimedOf, requested_points}
use Rattle.circle_point.specs.Projective.{from_line}
use Rattle.circle_relation.specs.Accepts.{Fields}
use Rattle.circle_relation.specs.Statement.{MatrixClaim, PointClaim, all_matrices}
use Rattle.circle_relation.specs.StatementOf.{batch_claims, matrix_claim, point_claim}
use Rattle.circle_codewords.specs.Ratios.{points_of_height}
use Rattle.circle_codewords.specs.Words.{claim_of}
use Rattle.p3_circle.specs.Committing.{AreExtensions, IsExtension}
use Rattle.p3_circle.specs.Honest.{AreValuesOfBatch, AreValuesOfRows}
use Rattle.p3_circle.specs.Scheme.{IsCommitted}

-- the number of a domain's points
abbrev pub points_in : {F : Type 0} {g : Ghosts F} → CircleDomain F g → ℕ
points_in d = 2 ^ log_size d

-- rows on domains
abbrev Batch : (F : Type 0) → Ghosts F → Type 0
Batch F g = List (CircleDomain F g × RowMajorMatrix F)

-- claims at points are the points beside the values
points-claimed : {E : Type 0} (ps : List (PointOpening E)) → map point_claim ps
    ≡ pairwise claim_of (map (λ p. p.point) ps) (map (λ p. p.values.items) ps)
points-claimed [] = refl
points-claimed (p ∷ ps) = ap (λ rest. point_claim p ∷ rest) (points-claimed ps)

length-points : {E : Type 0} (ps : List (PointOpening E)) → length (map point_claim ps)
    ≡ length (map (λ p. p.point) ps)
length-points [] = refl
length-points (p ∷ ps) = let rest = length-points ps in omega (arith, rest)

-- lists of the same length whose items are related place by place
zip-places : {A B : Type 0} (R : A → B → Type 0) (xs : List A) (ys : List B) (d : A) (e : B) →
    length ys ≡ length xs →
    ((i : ℕ) → i < length xs → R (slice_index_or xs i d) (slice_index_or ys i e)) → AllZip R xs ys
zip-places R [] [] d e same each = tt
zip-places R [] (y ∷ ys) d e same each = absurd (omega (arith, same))
zip-places R (x ∷ xs) [] d e same each = absurd (omega (arith, same))
zip-places R (x ∷ xs) (y ∷ ys) d e same each = (
  each 0 (omega arith),
  zip-places R xs ys d e (omega (arith, same)) (λ i lt. each (suc i) (omega (arith, lt))),
)

module _ {F E M : Type 0} {g : Ghosts F} (k : Fields F E) (two : ℕ) (p : FriParameters M) where
  -- the height of what is committed to of rows on a domain
  log-of : (x : CircleDomain F g × RowMajorMatrix F) (m : RowMajorMatrix F) →
      height_of m ≡ 2 ^ log_of (height_of m) → IsExtension k.field k.gen p.log_blowup x.0 x.1 m →
      log_of (height_of m) ≡ log_size x.0 + p.log_blowup
  log-of x m power extension = pow_injective (log_of (height_of m)) (log_size x.0 + p.log_blowup)
      (sym power ∙ extension.height)

  -- it is of low degree, by the coefficients of the rows
  abbrev extension-low : (x : CircleDomain F g × RowMajorMatrix F) (m : RowMajorMatrix F)
      (extension : IsExtension k.field k.gen p.log_blowup x.0 x.1 m) → log_of (height_of m)
      ≡ log_size x.0 + p.log_blowup → IsOfLowDegree k p.log_blowup m
  extension-low x m extension height =
      let f = λ (w : ℕ). values_at k.field extension.coeffs w in
      let less : log_of (height_of m) - p.log_blowup ≡ log_size x.0 = omega (arith, height) in
      record {
        coeffs = extension.coeffs;
        count = extension.told.height ∙ ap (λ i. 2 ^ i) (sym less);
        values = ap (λ w. map (f w) (points_of_height k.field k.gen (log_of (height_of m))))
            extension.width
            ∙ ap (λ h. map (f (width_of x.1)) (points_of_height k.field k.gen h)) height
            ∙ sym extension.values;
      }

  batch-low : (batch : Batch F g) (ms : List (RowMajorMatrix F)) (points : List (List E)) →
      AreExtensions k.field k.gen p.log_blowup batch ms →
      AllZip (IsOpenable k two p.log_blowup) ms points →
      AllByRecursion (IsOfLowDegree k p.log_blowup) ms
  batch-low [] [] points made openable = tt
  batch-low [] (m ∷ ms) points made openable = absurd made
  batch-low (x ∷ batch) [] points made openable = absurd made
  batch-low (x ∷ batch) (m ∷ ms) [] made openable = absurd openable
  batch-low (x ∷ batch) (m ∷ ms) (t ∷ points) made openable = (
    extension-low x m made.0 (log-of x m openable.0.power made.0),
    batch-low batch ms points made.1 openable.1,
  )

  -- claims of what is returned for one matrix
  one-claimed : (x : CircleDomain F g × RowMajorMatrix F) (m : RowMajorMatrix F) (points : List E)
      (values : List (List E)) (c : MatrixOpening E (CircleDomain F g)) →
      IsExtension k.field k.gen p.log_blowup x.0 x.1 m →
      height_of m ≡ 2 ^ log_of (height_of m) → IsClaimedOf points_in x points values c →
      matrix_claim c ≡ claimed p.log_blowup (committed k p.log_blowup m points values)
  one-claimed x m points values c extension power is =
      let height = log-of x m power extension in
      let size = pow_injective (log_size c.domain) (log_size x.0) is.domain in
      let fewer : log_size c.domain ≡ log_of (height_of m) - p.log_blowup =
      omega (arith, height, size) in
      let made : ℕ → List (PointClaim E) → MatrixClaim E =
      λ n claims. record { log_n = n; claims = claims } in
      ap (λ n. made n (map point_claim c.points.items)) fewer
      ∙ ap (made (log_of (height_of m) - p.log_blowup))
      (points-claimed c.points.items
      ∙ ap (λ ps. pairwise claim_of ps (map (λ p. p.values.items) c.points.items)) is.points
      ∙ ap (pairwise claim_of points) is.values)

  batch-claimed : (batch : Batch F g) (ms : List (RowMajorMatrix F)) (points : List (List E))
      (values : List (List (List E))) (cs : List (MatrixOpening E (CircleDomain F g))) →
      AreExtensions k.field k.gen p.log_blowup batch ms →
      AllZip (IsOpenable k two p.log_blowup) ms points → AreClaimedOf points_in
      batch points values cs → map matrix_claim cs
      ≡ map (claimed p.log_blowup) (batch_committed k p.log_blowup ms points values)
  batch-claimed [] [] points values [] made openable are = refl
  batch-claimed [] [] [] [] (c ∷ cs) made openable are = absurd are
  batch-claimed [] [] (t ∷ points) values (c ∷ cs) made openable are = absurd openable
  batch-claimed [] [] [] (v ∷ values) (c ∷ cs) made openable are = absurd are
  batch-claimed [] (m ∷ ms) points values cs made openable are = absurd made
  batch-claimed (x ∷ batch) [] points values cs made openable are = absurd made
  batch-claimed (x ∷ batch) (m ∷ ms) [] values cs made openable are = absurd openable
  batch-claimed (x ∷ batch) (m ∷ ms) (t ∷ points) [] cs made openable are = absurd are
  batch-claimed (x ∷ batch) (m ∷ ms) (t ∷ points) (v ∷ values) [] made openable are = absurd are
  batch-claimed (x ∷ batch) (m ∷ ms) (t ∷ points) (v ∷ values) (c ∷ cs) made openable are =
      ap (λ first. first ∷ map matrix_claim cs)
      (one-claimed x m t v c made.0 openable.0.power are.0)
      ∙ ap (λ rest. claimed p.log_blowup (committed k p.log_blowup m t v) ∷ rest)
      (batch-claimed batch ms points values cs made.1 openable.1 are.1)

  -- each matrix is claimed at a point
  one-pointed : (x : CircleDomain F g × RowMajorMatrix F) (points : List E) (values : List (List E))
      (c : MatrixOpening E (CircleDomain F g)) → IsClaimedOf points_in x points values c →
      1 ≤ length (map point_claim c.points.items)
  one-pointed x points values c is =
      let some = is.some in
      let long = length-points c.points.items in
      let same = ap length is.points in
      omega (arith, some, long, same)

  batch-pointed : (batch : Batch F g) (points : List (List E)) (values : List (List (List E)))
      (cs : List (MatrixOpening E (CircleDomain F g))) → AreClaimedOf points_in
      batch points values cs → AllByRecursion (λ m. 1 ≤ length m.claims) (map matrix_claim cs)
  batch-pointed batch points values [] are = tt
  batch-pointed [] [] [] (c ∷ cs) are = absurd are
  batch-pointed [] [] (v ∷ values) (c ∷ cs) are = absurd are
  batch-pointed [] (t ∷ points) [] (c ∷ cs) are = absurd are
  batch-pointed [] (t ∷ points) (v ∷ values) (c ∷ cs) are = absurd are
  batch-pointed (x ∷ batch) [] [] (c ∷ cs) are = absurd are
  batch-pointed (x ∷ batch) [] (v ∷ values) (c ∷ cs) are = absurd are
  batch-pointed (x ∷ batch) (t ∷ points) [] (c ∷ cs) are = absurd are
  batch-pointed (x ∷ batch) (t ∷ points) (v ∷ values) (c ∷ cs) are =
      (one-pointed x t v c are.0, batch-pointed batch points values cs are.1)

  module _ {D Com : Type 0} (kept : D → List (RowMajorMatrix F))
      (Commits : List (RowMajorMatrix F) → Com → Type 0) where
    abbrev pub commits : Batch F g → Com → D → Type 0
    commits batch commitment d = IsCommitted k.field k.gen p.log_blowup Commits batch commitment
        (kept d)

    -- the claims of a verifier are on what is returned
    pub are-claimed : (requests : List (OpeningRequest D E)) (values : Openings E)
        (claims : List (CommitmentOpening E Com (CircleDomain F g))) →
        AllByRecursion (IsFit kept k p.log_blowup two) requests →
        AreAnsweredBy points_in commits requests values claims →
        AreClaimed k p kept Commits requests values (batch_claims claims)
    are-claimed [] [] [] fit are = tt
    are-claimed [] [] (c ∷ cs) fit are = absurd are
    are-claimed [] (v ∷ vs) [] fit are = absurd are
    are-claimed [] (v ∷ vs) (c ∷ cs) fit are = absurd are
    are-claimed (r ∷ rs) [] [] fit are = absurd are
    are-claimed (r ∷ rs) [] (c ∷ cs) fit are = absurd are
    are-claimed (r ∷ rs) (v ∷ vs) [] fit are = absurd are
    are-claimed (r ∷ rs) (v ∷ vs) (c ∷ cs) fit are = (
      record {
        committed = are.0.committed.committed;
        matrices = batch-claimed are.0.batch (kept r.prover_data.now) (requested_points r) v
            c.matrices.items are.0.committed.extended fit.0 are.0.claims;
      },
      are-claimed rs vs cs fit.1 are.1,
    )

    all-pointed : (requests : List (OpeningRequest D E)) (values : Openings E)
        (claims : List (CommitmentOpening E Com (CircleDomain F g))) → AreAnsweredBy points_in
        commits requests values claims →
        AllByRecursion (λ m. 1 ≤ length m.claims) (all_matrices (batch_claims claims))
    all-pointed requests values [] are = tt
    all-pointed [] [] (c ∷ cs) are = absurd are
    all-pointed [] (v ∷ vs) (c ∷ cs) are = absurd are
    all-pointed (r ∷ rs) [] (c ∷ cs) are = absurd are
    all-pointed (r ∷ rs) (v ∷ vs) (c ∷ cs) are =
        all-append (λ (m : MatrixClaim E). 1 ≤ length m.claims) (map matrix_claim c.matrices.items)
        (all_matrices (batch_claims cs))
        (batch-pointed are.0.batch (requested_points r) v c.matrices.items are.0.claims)
        (all-pointed rs vs cs are.1)

    pub are-pointed : (requests : List (OpeningRequest D E)) (values : Openings E)
        (claims : List (CommitmentOpening E Com (CircleDomain F g))) → AreAnsweredBy points_in
        commits requests values claims →
        All (λ m. 1 ≤ length m.claims) (all_matrices (batch_claims claims))
    are-pointed requests values claims are =
        All-from_recursion (λ (m : MatrixClaim E). 1 ≤ length m.claims)
        (all_matrices (batch_claims claims)) (all-pointed requests values claims are)

    -- what is requested, as the claims on it, was kept of batches
    answered-by-recursion : (requests : List (OpeningRequest D E)) (values : Openings E)
        (claims : List (CommitmentOpening E Com (CircleDomain F g))) → AreAnsweredBy points_in
        commits requests values claims →
        AllByRecursion (λ r. (batch : Batch F g) × (commitment : Com)
        × commits batch commitment r.prover_data.now) requests
    answered-by-recursion [] values claims are = tt
    answered-by-recursion (r ∷ rs) [] [] are = absurd are
    answered-by-recursion (r ∷ rs) [] (c ∷ cs) are = absurd are
    answered-by-recursion (r ∷ rs) (v ∷ vs) [] are = absurd are
    answered-by-recursion (r ∷ rs) (v ∷ vs) (c ∷ cs) are =
        ((are.0.batch, c.commitment, are.0.committed), answered-by-recursion rs vs cs are.1)

    pub answered-kept : (requests : List (OpeningRequest D E)) (values : Openings E)
        (claims : List (CommitmentOpening E Com (CircleDomain F g))) → AreAnsweredBy points_in
        commits requests values claims →
        All (λ r. (batch : Batch F g) × (commitment : Com)
        × commits batch commitment r.prover_data.now) requests
    answered-kept requests values claims are =
        All-from_recursion (λ (r : OpeningRequest D E). (batch : Batch F g) × (commitment : Com)
        × commits batch commitment r.prover_data.now) requests
        (answered-by-recursion requests values claims are)

    -- what was kept of batches is of low degree
    pub kept-low : (requests : List (OpeningRequest D E)) →
        All (λ r. (batch : Batch F g) × (commitment : Com)
        × commits batch commitment r.prover_data.now) requests → AreRequests kept k two p requests →
        AreOfLowDegree kept k p requests
    kept-low requests known asked = λ i d lt.
        let r = slice_index_or requests i d in
        let (batch, commitment, told) = known i d lt in
        All-from_recursion (IsOfLowDegree k p.log_blowup) (kept r.prover_data.now)
        (batch-low batch (kept r.prover_data.now) (points_of kept r) told.extended
        (asked.fit i d lt))

  module _ (base : FieldLaws k.field) (laws : FieldLaws k.extension)
      (e : IsEmbedding k.field k.extension k.embed) (gens : AreGenerators k.field two k.gen) where
    -- the values that are returned for rows on a domain
    one-valued : (x : CircleDomain F g × RowMajorMatrix F) (m : RowMajorMatrix F) (points : List E)
        (values : List (List E)) → IsExtension k.field k.gen p.log_blowup x.0 x.1 m →
        IsOpenable k two p.log_blowup m points →
        AreValuesOf k p.log_blowup m points values → AreValuesOfRows k x points values
    one-valued x m points values extension openable are =
        let height = log-of x m openable.power extension in
        let low = extension-low x m extension height in record {
          coeffs = extension.coeffs;
          told = extension.told;
          only = extension.only;
          values =
              zip-places
              (λ t v. v ≡ lifted_values_at k.field.zero k.extension k.embed extension.coeffs
              (width_of x.1) (from_line k.extension t)) points values k.extension.zero [] are.count
              (λ i lt. let t = slice_index_or points i k.extension.zero in
              opens-true k base laws e gens p.log_blowup m low t (slice_index_or values i [])
              openable.blowup openable.in_group (are.opened i k.extension.zero lt)
              ∙ ap
              (λ w. lifted_values_at k.field.zero k.extension k.embed extension.coeffs w
              (from_line k.extension t)) extension.width);
        }

    batch-valued : (batch : Batch F g) (ms : List (RowMajorMatrix F)) (points : List (List E))
        (values : List (List (List E))) → AreExtensions k.field k.gen p.log_blowup batch ms →
        AllZip (IsOpenable k two p.log_blowup) ms points →
        AllZip (λ m rest. AreValuesOf k p.log_blowup m rest.0 rest.1) ms (zip points values) →
        AreValuesOfBatch k batch points values
    batch-valued [] [] [] values made openable are = tt
    batch-valued [] [] (t ∷ points) values made openable are = absurd openable
    batch-valued [] (m ∷ ms) points values made openable are = absurd made
    batch-valued (x ∷ batch) [] points values made openable are = absurd made
    batch-valued (x ∷ batch) (m ∷ ms) [] values made openable are = absurd openable
    batch-valued (x ∷ batch) (m ∷ ms) (t ∷ points) [] made openable are = absurd are
    batch-valued (x ∷ batch) (m ∷ ms) (t ∷ points) (v ∷ values) made openable are = (
      one-valued x m t v made.0 openable.0 are.0,
      batch-valued batch ms points values made.1 openable.1 are.1,
    )

-- of all requests
pub all-valued : {F E M D Com : Type 0} (g : Ghosts F) (k : Fields F E) (two : ℕ)
    (p : FriParameters M) (base : FieldLaws k.field) (laws : FieldLaws k.extension)
    (e : IsEmbedding k.field k.extension k.embed)
    (gens : AreGenerators k.field two k.gen) (kept : D → List (RowMajorMatrix F))
    (Commits : List (RowMajorMatrix F) → Com → Type 0) (requests : List (OpeningRequest D E))
    (values : Openings E) →
    AllByRecursion (IsFit kept k p.log_blowup two) requests →
    AllZip (AreAnswers kept k p.log_blowup) requests values →
    AllZip (λ r v. (batch : Batch F g) (commitment : Com) →
    commits k two p kept Commits batch commitment r.prover_data.now →
    AreValuesOfBatch k batch (requested_points r) v) requests values
all-valued g k two p base laws e gens kept Commits [] [] fit are = tt
all-valued g k two p base laws e gens kept Commits [] (v ∷ vs) fit are = absurd are
all-valued g k two p base laws e gens kept Commits (r ∷ rs) [] fit are = absurd are
all-valued g k two p base laws e gens kept Commits (r ∷ rs) (v ∷ vs) fit are = (
  λ batch commitment told. batch-valued k two p base laws e gens batch (kept r.prover_data.now)
      (requested_points r) v told.extended fit.0 are.0.0,
  all-valued g k two p base laws e gens kept Commits rs vs fit.1 are.1,
)
