-- Rows of 2^n that are stored one after another: how many entries, and which columns.
use Rattle.std.specs.Prelude.{◌≡◌, ℕ, ◌+◌, ◌*◌, ◌/◌, ◌%◌, ◌<◌, ◌≤◌, List, length, map, All}
use Rattle.std.proofs.Common.{◌∙◌, ap, arith}
use Rattle.std.proofs.Math.Nat.{mul-div_cancel}
use Rattle.std.proofs.lemmas.Nat.{mod-mul-add}
use Rattle.circle_field.specs.Field.{FieldOps}
use Rattle.circle_field.specs.Circle.{Coordinates}
use Rattle.circle_commit.specs.Matrix.{rows_from, column}
use Rattle.circle_commit.specs.RowFacts.{rows_from-widths}
use Rattle.circle_point.specs.Basis.{value}
use Rattle.circle_domain.specs.Values.{values_at}
use Rattle.circle_domain.proofs.Columns.{rows-by_columns, column-made}

module _ (len count width : ℕ) (long : len ≡ count * width) (positive : 1 ≤ width) where
  pub whole : len % width ≡ 0
  whole =
      ap (λ n. n % width) (long ∙ (let e : count * width ≡ count * width + 0 = omega arith in e))
      ∙ mod-mul-add count width 0 positive

  pub height : len / width ≡ count
  height = ap (λ n. n / width) long ∙ mul-div_cancel count positive

module _ {F : Type 0} (k : FieldOps F) (width count : ℕ) (positive : 1 ≤ width) where
  -- rows are the values of coefficients where their columns are
  pub rows-values : (rows coeffs : List (List F)) (points : List (Coordinates F)) →
      All (λ row. length row ≡ width) rows →
      ((j : ℕ) → j < width → column k.zero rows j ≡ map (value k (column k.zero coeffs j)) points) →
      rows ≡ map (values_at k coeffs width) points
  rows-values rows coeffs points wide e =
      rows-by_columns k.zero width (λ j p. value k (column k.zero coeffs j) p) rows points positive
      wide e

  -- the columns of values
  pub column-values : (coeffs : List (List F)) (points : List (Coordinates F)) (j : ℕ) → j < width →
      column k.zero (map (values_at k coeffs width) points) j
      ≡ map (value k (column k.zero coeffs j)) points
  column-values coeffs points j h =
      column-made k.zero width j (λ j p. value k (column k.zero coeffs j) p) points h

  pub stored-wide : (entries : List F) → length entries ≡ count * width →
      All (λ row. length row ≡ width) (rows_from width count entries)
  stored-wide entries long = rows_from-widths width count entries (omega (arith, long))
