-- What a committing call refuses, in order, and what it commits to.
-- A matrix of 2^h rows is committed on the standard domain of 2^h points, its rows in the
-- transform's order.
use Rattle.std.specs.Prelude.{◌≡◌, ℕ, ◌+◌, ◌-◌, ◌^◌, ◌<◌, ◌==◌, Bool, ◌&&◌, ◌||◌, List, [], ◌∷◌}
use Rattle.std.specs.Prelude.{◌++◌, length, All, map, flat_map, take, nat_lt, nat_le, Result, Err}
use Rattle.std.specs.Prelude.{IfErr, IfSome, MatchResult, slice_get, slice_index_or}
use Rattle.std.specs.List.{AllZip}
use Rattle.circle_field.specs.Field.{FieldOps}
use Rattle.circle_field.specs.Circle.{Coordinates, times}
use Rattle.circle_commit.specs.RowMajorMatrix.{rows, width_of, height_of}
use Rattle.circle_commit.specs.declared.matrix.RowMajorMatrix.{RowMajorMatrix}
use Rattle.circle_commit.specs.declared.params.FriParameters.{FriParameters}
use Rattle.circle_domain.specs.Domain.{log_size, shift_of, IsStandardOf, IsGenuineDomain}
use Rattle.circle_domain.specs.Order.{cfft_order, natural_order}
use Rattle.circle_domain.specs.Ordering.{other_order}
use Rattle.circle_domain.specs.Values.{HasValues, values_at}
use Rattle.circle_domain.specs.declared.domain.CircleDomain.{CircleDomain}
use Rattle.circle_plane.specs.Coefficients.{natural_values_on}
use Rattle.circle_prover.specs.Requesting.{height_tests, matrix_tests}
use Rattle.circle_relation.specs.TestsInOrder.{Test, answer}
use Rattle.circle_relation.specs.declared.error.ProverError.{ProverError}
use Rattle.circle_relation.specs.declared.error.ProverError.TheVariants.{Memory, HeightTooLarge}
use Rattle.circle_relation.specs.declared.error.ProverError.TheVariants.{HeightTooSmall, NotGenuine}
use Rattle.circle_relation.specs.declared.error.ProverError.TheVariants.{NoCommittedMatrices}
use Rattle.circle_relation.specs.declared.error.ProverError.TheVariants.{DomainSmallerThanTrace}

-- the first refusal that there is reason for is the result; where there is reason for none, only
-- memory is refused
abbrev pub RefusesInOrder : {A : Type 0} → List (Test ProverError) → Result A ProverError → Type 0
RefusesInOrder tests result =
    MatchResult (answer tests (tt {0}))
    (λ passed. IfErr result (λ e. e ≡ Memory)) (λ first. result ≡ Err first)

-- whether the halves of a domain meet, or it is of one point: it isn't genuine
abbrev pub is_degenerate : {F : Type 0} {g : _} → (F → F → Bool) → FieldOps F → CircleDomain F g
    → Bool
is_degenerate eq k d =
    let turned = times k (2 ^ log_size d) (shift_of d) in
    log_size d == 0 || (eq turned.x k.one && eq turned.y k.zero)

-- the number of rows of the matrix at an index
abbrev pub height_at : {F : Type 0} → List (RowMajorMatrix F) → ℕ → ℕ
height_at matrices idx = slice_index_or (map height_of matrices) idx 0

module _ {M : Type 0} (two_adicity : ℕ) (p : FriParameters M) where
  -- matrices that are to be committed to
  abbrev pub lde_tests : {F : Type 0} → List (RowMajorMatrix F) → List (Test ProverError)
  lde_tests ldes = (length ldes == 0, NoCommittedMatrices) ∷ matrix_tests two_adicity p ldes

  -- a committed matrix of `height` rows that is to be evaluated on a domain of 2^n points: also
  -- fewer points than the rows that it was extended from
  abbrev pub target_tests : ℕ → ℕ → List (Test ProverError)
  target_tests height n =
      height_tests two_adicity p height
      ++ (nat_lt (2 ^ (n + p.log_blowup)) height, DomainSmallerThanTrace) ∷ []

  -- likewise for the matrix at an index
  abbrev pub target_tests_at : {F : Type 0} → List (RowMajorMatrix F) → ℕ → ℕ
      → List (Test ProverError)
  target_tests_at matrices idx n = target_tests (height_at matrices idx) n

  module _ {F : Type 0} {g : _} (eq : F → F → Bool) (k : FieldOps F) where
    -- the domain of rows that are to be extended: of too few points; of so many points that the
    -- group has no domain for the extension; not genuine
    abbrev pub domain_tests : CircleDomain F g → List (Test ProverError)
    domain_tests d =
        (nat_lt (log_size d) (2 + p.log_final_poly_len), HeightTooSmall)
        ∷ (nat_le two_adicity (log_size d + p.log_blowup), HeightTooLarge)
        ∷ (is_degenerate eq k d, NotGenuine)
        ∷ []

    -- rows on domains, that are to be extended
    abbrev pub evaluation_tests : List (CircleDomain F g × RowMajorMatrix F)
        → List (Test ProverError)
    evaluation_tests evaluations = flat_map (λ e. domain_tests e.0) evaluations

    -- and then committed to
    abbrev pub commit_tests : List (CircleDomain F g × RowMajorMatrix F) → List (Test ProverError)
    commit_tests evaluations =
        (length evaluations == 0, NoCommittedMatrices) ∷ evaluation_tests evaluations

-- a domain that can be extended: it is genuine, and the group has a domain of 2^blowup times as
-- many points
abbrev pub IsExtendable : {F : Type 0} {g : _} → FieldOps F → ℕ → ℕ → CircleDomain F g → Type 0
IsExtendable k two_adicity blowup d =
    (log_size d + blowup < two_adicity) × IsGenuineDomain k d

-- each matrix has a row for each point of its domain
abbrev pub HaveRowsForPoints : {F : Type 0} {g : _} → List (CircleDomain F g × RowMajorMatrix F)
    → Type 0
HaveRowsForPoints evaluations = All (λ e. height_of e.1 ≡ 2 ^ log_size e.0) evaluations

module _ {F : Type 0} (k : FieldOps F) (gen : ℕ → Coordinates F) where
  -- as many coefficients as the domain (n, s) has points, a row for each index, whose polynomials'
  -- values at the points in natural order are the rows
  pub record HaveNaturalValues (n : ℕ) (s : Coordinates F) (width : ℕ)
      (coeffs given : List (List F)) : Type 0 where
    pub height : length coeffs ≡ 2 ^ n
    pub widths : All (λ row. length row ≡ width) coeffs
    pub values : map (values_at k coeffs width) (natural_order k gen n s) ≡ given

  -- row i of the matrix has, at point i of the standard domain of 2^blowup times as many points, in
  -- the transform's order, the values of the only polynomials whose values on the domain (n, s), in
  -- natural order, are the given rows of `columns` columns
  pub record IsExtensionOf (blowup n : ℕ) (s : Coordinates F) (columns : ℕ)
      (given : List (List F)) (made : RowMajorMatrix F) : Type 0 where
    pub coeffs : List (List F)
    pub told : HaveNaturalValues n s columns coeffs given
    pub only : (others : List (List F)) → HaveNaturalValues n s columns others given
        → coeffs ≡ others
    pub width : width_of made ≡ columns
    pub height : height_of made ≡ 2 ^ (n + blowup)
    pub values :
        rows made ≡ map (values_at k coeffs columns)
        (cfft_order k gen (n + blowup) (gen (n + blowup + 1)))

module _ {F : Type 0} {g : _} (k : FieldOps F) (gen : ℕ → Coordinates F) where
  -- the first 2^n points of a domain, in the transform's order, are the points in this order of the
  -- domain of 2^n points with its shift
  abbrev pub BeginsOrder : CircleDomain F g → ℕ → Type 0
  BeginsOrder d n =
      take (2 ^ n) (cfft_order k gen (log_size d) (shift_of d)) ≡ cfft_order k gen n (shift_of d)

  -- the extension of a matrix of rows on a domain
  abbrev pub IsExtension : ℕ → CircleDomain F g → RowMajorMatrix F → RowMajorMatrix F → Type 0
  IsExtension blowup d given made =
      IsExtensionOf k gen blowup (log_size d) (shift_of d) (width_of given) (rows given) made

  -- the matrices are those of the given rows, place by place
  abbrev pub AreExtensions : ℕ → List (CircleDomain F g × RowMajorMatrix F)
      → List (RowMajorMatrix F) → Type 0
  AreExtensions blowup given made =
      AllZip (λ rows matrix. IsExtension blowup rows.0 rows.1 matrix) given made

  -- the values on a domain, in natural order, of the only polynomials of 2^n coefficients whose
  -- values on the domain (n, s) in the transform's order are the first rows
  pub record AreContinued (n : ℕ) (s : Coordinates F) (width : ℕ) (first : List (List F))
      (d : CircleDomain F g) (made : List (List F)) : Type 0 where
    pub coeffs : List (List F)
    pub told : HasValues k gen n s width coeffs first
    pub only : (others : List (List F)) → HasValues k gen n s width others first → coeffs ≡ others
    pub values : made ≡ natural_values_on k gen d width coeffs

  -- likewise for the first 2^n rows of a matrix of 2^h rows
  abbrev pub ContinuesFirst :
      ℕ → ℕ → RowMajorMatrix F → CircleDomain F g → RowMajorMatrix F → Type 0
  ContinuesFirst n h committed d made =
      AreContinued n (gen (h + 1)) (width_of committed) (take (2 ^ n) (rows committed)) d
      (rows made)

  -- the values on a domain, in natural order, of what a matrix of 2^h rows commits to: on its own
  -- domain its rows, elsewhere by the 2^(h - blowup) coefficients that its first rows fix
  pub record AreCommittedValues (blowup : ℕ) (committed : RowMajorMatrix F) (d : CircleDomain F g)
      (made : RowMajorMatrix F) : Type 0 where
    pub log_height : ℕ
    pub height : height_of committed ≡ 2 ^ log_height
    pub width : width_of made ≡ width_of committed
    pub there : IsStandardOf gen log_height d →
        rows made ≡ other_order log_height (rows committed)
    pub elsewhere : ¬ IsStandardOf gen log_height d →
        ContinuesFirst (log_height - blowup) log_height committed d made

  -- what the matrix at an index commits to
  abbrev pub AreValuesOfMatrix : ℕ → List (RowMajorMatrix F) → ℕ → CircleDomain F g
      → RowMajorMatrix F → Type 0
  AreValuesOfMatrix blowup matrices idx d made =
      IfSome (slice_get matrices idx) (λ m. AreCommittedValues blowup m d made)
