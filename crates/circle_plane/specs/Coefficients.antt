-- Polynomials with given values on a domain, and their values elsewhere.
use Rattle.std.specs.Prelude.{◌≡◌, ℕ, ◌-◌, ◌^◌, ◌≤◌, List, map, take}
use Rattle.circle_field.specs.Field.{FieldOps}
use Rattle.circle_field.specs.Circle.{Coordinates}
use Rattle.circle_domain.specs.Domain.{log_size, shift_of, points_of}
use Rattle.circle_domain.specs.Lagrange.{AreWeightsAt}
use Rattle.circle_domain.specs.Order.{cfft_order}
use Rattle.circle_domain.specs.Ordering.{other_order}
use Rattle.circle_domain.specs.Values.{HasValues, values_at, with_zero_rows, lifted_values_at}
use Rattle.circle_domain.specs.declared.domain.CircleDomain.{CircleDomain}
use Rattle.circle_domain.specs.declared.lagrange.LagrangeWeights.{LagrangeWeights}

module _ {F : Type 0} {g : _} (k : FieldOps F) (gen : ℕ → Coordinates F) where
  -- as many coefficients as the domain has points, a row for each index, whose polynomials' values
  -- at the points in the transform's order are the rows
  abbrev pub AreCoefficients : CircleDomain F g → ℕ → List (List F) → List (List F) → Type 0
  AreCoefficients d width coeffs given =
      HasValues k gen (log_size d) (shift_of d) width coeffs given

  -- no others are the coefficients of the polynomials with given values on a domain
  abbrev pub AreOnlyOnes : CircleDomain F g → ℕ → List (List F) → List (List F) → Type 0
  AreOnlyOnes d width given coeffs =
      (others : List (List F)) → AreCoefficients d width others given → coeffs ≡ others

  -- the polynomials' values on a domain, in the transform's order
  abbrev pub cfft_values_on : CircleDomain F g → ℕ → List (List F) → List (List F)
  cfft_values_on d width coeffs =
      map (values_at k coeffs width) (cfft_order k gen (log_size d) (shift_of d))

  -- and in natural order
  abbrev pub natural_values_on : CircleDomain F g → ℕ → List (List F) → List (List F)
  natural_values_on d width coeffs = map (values_at k coeffs width) (points_of k gen d)

  -- the first 2^m rows are the values on the domain of 2^m points with the same shift
  abbrev pub BeginsWithSmaller : CircleDomain F g → ℕ → List (List F) → List (List F) → Type 0
  BeginsWithSmaller d width coeffs made = (m : ℕ) → 1 ≤ m → m ≤ log_size d →
      take (2 ^ m) made ≡ map (values_at k coeffs width) (cfft_order k gen m (shift_of d))

  -- coefficients with given values on a domain, in both orders, and the only ones
  pub record Interpolates (d : CircleDomain F g) (width : ℕ) (given coeffs : List (List F))
      : Type 0 where
    pub told : AreCoefficients d width coeffs given
    pub natural : natural_values_on d width coeffs ≡ other_order (log_size d) given
    pub only : AreOnlyOnes d width given coeffs

  -- the polynomials' values on a domain in both orders, and on smaller ones with its shift
  pub record Evaluates (d : CircleDomain F g) (width : ℕ) (coeffs made : List (List F))
      : Type 0 where
    pub cfft : made ≡ cfft_values_on d width coeffs
    pub natural : other_order (log_size d) made ≡ natural_values_on d width coeffs
    pub prefix : BeginsWithSmaller d width coeffs made

  -- the values on a larger domain of the polynomials with given values on a domain, both in the
  -- transform's order
  pub record Extrapolates (d target : CircleDomain F g) (width : ℕ) (given made : List (List F))
      : Type 0 where
    pub coeffs : List (List F)
    pub told : AreCoefficients d width coeffs given
    pub cfft : made ≡ cfft_values_on target width coeffs
    pub natural : other_order (log_size target) made ≡ natural_values_on target width coeffs
    pub prefix : BeginsWithSmaller target width coeffs made
    pub padded : AreCoefficients target width
        (with_zero_rows k.zero width (2 ^ log_size target - 2 ^ log_size d) coeffs) made

module _ {F E : Type 0} {g : _} (k : FieldOps F) (gen : ℕ → Coordinates F)
    (l : FieldOps E) (embed : F → E) where
  -- the values at a point of the polynomials with given values on a domain
  pub record AreValuesAt (p : Coordinates E) (d : CircleDomain F g) (width : ℕ)
      (given : List (List F)) (found : List E) : Type 0 where
    pub coeffs : List (List F)
    pub told : AreCoefficients k gen d width coeffs given
    pub at_point : found ≡ lifted_values_at k.zero l embed coeffs width p

  -- so at any point whose Lagrange polynomials these are
  abbrev pub AreValuesBy : CircleDomain F g → ℕ → List (List F) → LagrangeWeights E → List E
      → Type 0
  AreValuesBy d width given weights found =
      (p : Coordinates E) → AreWeightsAt k gen l embed d p weights →
      AreValuesAt p d width given found

  -- the values at a point of all polynomials with given values on a domain
  abbrev pub AreValuesOfAll : Coordinates E → CircleDomain F g → ℕ → List (List F) → List E → Type 0
  AreValuesOfAll p d width given found =
      (coeffs : List (List F)) → AreCoefficients k gen d width coeffs given →
      found ≡ lifted_values_at k.zero l embed coeffs width p
