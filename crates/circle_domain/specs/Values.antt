-- Coefficients whose polynomials have given values on a domain.
use Rattle.std.specs.Prelude.{◌≡◌, ℕ, ◌^◌, List, ◌++◌, length, map, All, replicate}
use Rattle.std.specs.List.{range_with_len}
use Rattle.circle_field.specs.Field.{FieldOps}
use Rattle.circle_field.specs.Circle.{Coordinates}
use Rattle.circle_commit.specs.Matrix.{column}
use Rattle.circle_point.specs.Basis.{value}
use Rattle.circle_domain.specs.Order.{cfft_order, natural_order}

-- the values at p of the polynomials whose coefficients are the columns of a matrix
abbrev pub values_at : {F : Type 0} → FieldOps F → List (List F) → ℕ → Coordinates F → List F
values_at k rows width p = map (λ j. value k (column k.zero rows j) p) (range_with_len 0 width)

-- two lists of coefficients have the same values at the points
abbrev pub AgreeAt : {F : Type 0} → FieldOps F → List (Coordinates F) → List F → List F → Type 0
AgreeAt k points xs ys = map (value k xs) points ≡ map (value k ys) points

-- as many coefficients as the domain (n, s) has points, a row for each index, whose polynomials'
-- values at the points in the transform's order are the rows
pub record HasValues {F : Type 0} (k : FieldOps F) (gen : ℕ → Coordinates F)
    (n : ℕ) (s : Coordinates F) (width : ℕ) (coeffs rows : List (List F)) : Type 0 where
  pub height : length coeffs ≡ 2 ^ n
  pub widths : All (λ row. length row ≡ width) coeffs
  pub values : map (values_at k coeffs width) (cfft_order k gen n s) ≡ rows

-- the rows and `count` rows of zeros
abbrev pub with_zero_rows : {F : Type 0} → F → ℕ → ℕ → List (List F) → List (List F)
with_zero_rows zero width count rows = rows ++ replicate count (replicate width zero)

-- the values of the same polynomials at a point of a larger field
abbrev pub lifted_values_at : {F E : Type 0} →
    F → FieldOps E → (F → E) → List (List F) → ℕ → Coordinates E → List E
lifted_values_at zero l embed coeffs width q =
    map (λ j. value l (map embed (column zero coeffs j)) q) (range_with_len 0 width)

-- as many coefficients as the domain (n, s) has points, whose polynomial has these values in
-- natural order
pub record Interpolates {F : Type 0} (k : FieldOps F) (gen : ℕ → Coordinates F)
    (n : ℕ) (s : Coordinates F) (coeffs evals : List F) : Type 0 where
  pub count : length coeffs ≡ 2 ^ n
  pub values : map (value k coeffs) (natural_order k gen n s) ≡ evals

module _ {F E : Type 0} (k : FieldOps F) (gen : ℕ → Coordinates F) (l : FieldOps E) (embed : F → E)
    (n : ℕ) (s : Coordinates F) (evals : List F) (q : Coordinates E) (v : E) where
  -- v is at q the value of a polynomial with these values on the domain (n, s)
  abbrev pub IsValueOfOne : Type 0
  IsValueOfOne =
      (coeffs : List F) × Interpolates k gen n s coeffs evals × (v ≡ value l (map embed coeffs) q)

  -- v is at q the value of each polynomial with these values on the domain (n, s)
  abbrev pub IsValueOfEach : Type 0
  IsValueOfEach =
      (coeffs : List F) → Interpolates k gen n s coeffs evals → v ≡ value l (map embed coeffs) q
