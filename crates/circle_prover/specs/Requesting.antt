-- What is refused of requests to open before the challenger is seeded, in order.
use Rattle.std.specs.Prelude.{◌≡◌, ℕ, ◌^◌, ◌<◌, ◌≤◌, ◌==◌, Bool, not, ◌&&◌, ◌||◌, List, [], ◌∷◌}
use Rattle.std.specs.Prelude.{◌++◌, ◌+◌, length, flat_map, zip, nat_lt, nat_le, vec_len}
use Rattle.std.specs.Prelude.{MatchResult, Result, Err, All, Vec}
use Rattle.std.specs.declared.alloc.Global.{Global}
use Rattle.std.specs.List.{list_any}
use Rattle.circle_field.specs.Field.{FieldOps}
use Rattle.circle_field.specs.Circle.{Coordinates}
use Rattle.circle_commit.specs.RowMajorMatrix.{height_of}
use Rattle.circle_commit.specs.declared.matrix.RowMajorMatrix.{RowMajorMatrix}
use Rattle.circle_commit.specs.declared.params.FriParameters.{FriParameters}
use Rattle.circle_commit.specs.declared.pcs.OpeningRequest.{OpeningRequest}
use Rattle.circle_domain.specs.Selectors.{IsFinite}
use Rattle.circle_codewords.specs.Requests.{log_of}
use Rattle.circle_relation.specs.declared.error.ProverError.{ProverError}
use Rattle.circle_relation.specs.declared.error.ProverError.TheVariants.{HeightTooLarge}
use Rattle.circle_relation.specs.declared.error.ProverError.TheVariants.{HeightTooSmall}
use Rattle.circle_relation.specs.declared.error.ProverError.TheVariants.{UnfitParameters}
use Rattle.circle_relation.specs.declared.error.ProverError.TheVariants.{MatrixCountMismatch}
use Rattle.circle_relation.specs.declared.error.ProverError.TheVariants.{NoCommittedMatrices}
use Rattle.circle_relation.specs.declared.error.ProverError.TheVariants.{PointAtInfinity}
use Rattle.circle_relation.specs.declared.error.ProverError.TheVariants.{PointOnDomain}
use Rattle.circle_point.specs.Projective.{from_line, is_at_infinity}
use Rattle.circle_relation.specs.Accepts.{Fields}
use Rattle.circle_codewords.specs.Ratios.{points_of_height}
use Rattle.circle_relation.specs.TestsInOrder.{Test, answer}

-- whether parameters are not supported
abbrev pub is_unfit : {M : Type 0} → FriParameters M → Bool
is_unfit p =
    p.num_queries == 0 || (p.log_blowup == 0 || (not (p.max_log_arity == 1)
    || (nat_lt 30 p.batch_proof_of_work_bits || (nat_lt 30 p.commit_proof_of_work_bits
    || nat_lt 30 p.query_proof_of_work_bits))))

module _ {M : Type 0} (two_adicity : ℕ) (p : FriParameters M) where
  -- a committed matrix of `height` rows: too few to be folded; more than the group has a domain of
  abbrev pub height_tests : ℕ → List (Test ProverError)
  height_tests height =
      (nat_lt height (2 ^ (p.log_blowup + 2 + p.log_final_poly_len)), HeightTooSmall)
      ∷ (nat_le (2 ^ two_adicity) height, HeightTooLarge)
      ∷ []

  -- committed matrices
  abbrev pub matrix_tests : {F : Type 0} → List (RowMajorMatrix F) → List (Test ProverError)
  matrix_tests matrices = flat_map (λ m. height_tests (height_of m)) matrices

-- a matrix that the group has a domain for, of at least two points
pub record HasDomain {F : Type 0} (two_adicity : ℕ) (m : RowMajorMatrix F) : Type 0 where
  pub power : height_of m ≡ 2 ^ log_of (height_of m)
  pub positive : 1 ≤ log_of (height_of m)
  pub in_group : log_of (height_of m) < two_adicity

-- whether some coordinate of a request belongs to no point
abbrev pub is_infinite : {D E : Type 0} → (E → E → Bool) → FieldOps E → OpeningRequest D E → Bool
is_infinite same l request =
    list_any (λ v. list_any (is_at_infinity same l) v.items) request.points.items

-- the coordinates of a request belong to points
abbrev pub IsAtPoints : {D E : Type 0} → FieldOps E → OpeningRequest D E → Type 0
IsAtPoints l request = All (λ v. All (IsFinite l) v.items) request.points.items

module _ {F E : Type 0} (k : FieldOps F) (gen : ℕ → Coordinates F) (l : FieldOps E) (embed : F → E)
    (same : E → E → Bool) where
  -- whether a coordinate of the projective line is that of a point
  abbrev pub is_that_of : E → Coordinates F → Bool
  is_that_of t x = let z = from_line l t in same (embed x.x) z.x && same (embed x.y) z.y

  -- whether one of the coordinates is that of a point of the domain that a matrix is committed on
  abbrev pub some_on_standard : RowMajorMatrix F → List E → Bool
  some_on_standard m points =
      let domain = points_of_height k gen (log_of (height_of m)) in
      list_any (λ t. list_any (is_that_of t) domain) points

  -- whether some matrix of a batch is to be opened at a point of the domain that it is committed on
  abbrev pub meets_standard : List (RowMajorMatrix F) → List (Vec E Global) → Bool
  meets_standard matrices points =
      list_any (λ asked. some_on_standard asked.0 asked.1.items) (zip matrices points)

  -- so of requests; kept of what a committer keeps are the matrices
  abbrev pub meets_standards : {D : Type 0} → (D → List (RowMajorMatrix F))
      → List (OpeningRequest D E) → Bool
  meets_standards kept requests =
      list_any (λ r. meets_standard (kept r.prover_data.now) r.points.items) requests

-- the same by the fields
module _ {F E : Type 0} (k : Fields F E) (same : E → E → Bool) where
  abbrev pub is_at : E → Coordinates F → Bool
  is_at = is_that_of k.field k.gen k.extension k.embed same

  abbrev pub some_on_domain : RowMajorMatrix F → List E → Bool
  some_on_domain = some_on_standard k.field k.gen k.extension k.embed same

  abbrev pub meets_domain : List (RowMajorMatrix F) → List (Vec E Global) → Bool
  meets_domain = meets_standard k.field k.gen k.extension k.embed same

-- kept of what a committer keeps are the matrices
module _ {D F E : Type 0} (kept : D → List (RowMajorMatrix F))
    (requests : List (OpeningRequest D E)) where
  -- whether there is no request, or one of no matrix
  abbrev pub lacks_matrices : Bool
  lacks_matrices =
      length requests == 0 || list_any (λ r. length (kept r.prover_data.now) == 0) requests

  -- whether some request has not a list of points for each matrix
  abbrev pub has_other_counts : Bool
  has_other_counts =
      list_any (λ r. not (vec_len r.points == length (kept r.prover_data.now))) requests

  -- whether some matrix is to be opened at a point of the domain that it is committed on
  abbrev pub meets_domains : Fields F E → (E → E → Bool) → Bool
  meets_domains k same =
      meets_standards k.field k.gen k.extension k.embed same kept requests

  -- the parameters; the numbers of matrices and of lists of points; the heights, matrix by matrix;
  -- the points
  unfoldable pub opening_tests : {M : Type 0} → ℕ → FriParameters M → Fields F E
      → (E → E → Bool) → List (Test ProverError)
  opening_tests two_adicity p k same =
      (is_unfit p, UnfitParameters)
      ∷ (lacks_matrices, NoCommittedMatrices)
      ∷ (has_other_counts, MatrixCountMismatch)
      ∷ (flat_map (λ r. matrix_tests two_adicity p (kept r.prover_data.now)) requests
      ++ (list_any (is_infinite same k.extension) requests, PointAtInfinity)
      ∷ (meets_domains k same, PointOnDomain) ∷ [])

-- where one of the tests has reason to refuse, the first is the result, and the challenger is as it
-- was
abbrev pub RefusesBefore : {A C : Type 0} → List (Test ProverError) → Result A ProverError → C → C
    → Type 0
RefusesBefore tests result old new =
    MatchResult (answer tests (tt {0})) (λ passed. Unit {0})
    (λ first. (result ≡ Err first) × (new ≡ old))

-- the tests of requests; kept of what a committer keeps are the matrices
abbrev pub request_tests : {D F E M : Type 0} → Fields F E → (D → List (RowMajorMatrix F))
    → FriParameters M → List (OpeningRequest D E) → List (Test ProverError)
request_tests k kept p requests = opening_tests kept requests k.two_adicity p k k.same
