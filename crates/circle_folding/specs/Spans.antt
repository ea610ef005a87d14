-- Codewords that are the values of polynomials with few coefficients: what is left of a codeword
-- without its multiple of the vanishing polynomial, and what it folds to. Circle STARKs (ePrint
-- 2024/278), sections 4.2 and 4.3.
use Rattle.std.specs.Prelude.{◌≡◌, ◌≢◌, ℕ, ◌+◌, ◌-◌, List, flat_map}
use Rattle.circle_field.specs.Field.{FieldOps}
use Rattle.circle_field.specs.Circle.{Coordinates}
use Rattle.circle_commit.specs.DotProduct.{dot, pairwise}
use Rattle.circle_domain.specs.Spans.{Span, XSpan}
use Rattle.circle_folding.specs.Fold.{y_folds, x_folds}
use Rattle.circle_folding.specs.Lambda.{vanishing_values, lambda_of, remainder_of}

module _ {F E : Type 0} (k : FieldOps F) (gen : ℕ → Coordinates F)
    (l : FieldOps E) (embed : F → E) where
  -- a codeword of 2^m entries is the values of a polynomial with 2^n coefficients on the standard
  -- domain, n being m less the blowup's logarithm, plus `multiple` times v_n
  pub record Splits (blowup m : ℕ) (word low : List E) (multiple : E) : Type 0 where
    pub span : Span k gen l embed (m - blowup) m (gen (m + 1)) low
    pub sum : word ≡ pairwise (λ a v. l.add a (l.mul multiple v)) low
        (vanishing_values k gen l embed blowup m)

  -- if a codeword splits at all, then into these
  abbrev pub IsOnlySplit : ℕ → ℕ → List E → List E → E → Type 0
  IsOnlySplit blowup m word low multiple =
      (f : List E) (a : E) → Splits blowup m word f a → (low ≡ f) × (multiple ≡ a)

  -- the sum of the codeword's entries times v_n is 0
  abbrev pub IsOrthogonal : ℕ → ℕ → List E → Type 0
  IsOrthogonal blowup m word = dot l word (vanishing_values k gen l embed blowup m) ≡ l.zero

  -- lambda of the codeword is 0, and the codeword less 0 times v_n is the codeword
  abbrev pub HasNoMultiple : ℕ → ℕ → List E → Type 0
  HasNoMultiple blowup m word =
      (lambda_of k gen l embed blowup m word ≡ l.zero)
      × (remainder_of k gen l embed blowup m l.zero word ≡ word)

  -- 2^m rows of two entries, one after another, are the values of a polynomial with 2^b
  -- coefficients on the standard domain of 2^(m + 1) points
  abbrev pub RowsSpan : ℕ → ℕ → List (List E) → Type 0
  RowsSpan b m rows =
      Span k gen l embed b (m + 1) (gen (m + 2)) (flat_map (λ row. row) rows)

  -- they are the values of a polynomial in x with 2^b coefficients at the x coordinates of
  -- 2^(m + 1) points, half of a standard domain
  abbrev pub RowsXSpan : ℕ → ℕ → List (List E) → Type 0
  RowsXSpan b m rows = XSpan k gen l embed b (m + 1) (flat_map (λ row. row) rows)

  -- where the rows are the values of a polynomial, the folded codeword is those of one in x with
  -- half as many coefficients
  abbrev pub HalvesSpan : ℕ → List (List E) → List E → Type 0
  HalvesSpan m rows folded =
      (b : ℕ) → RowsSpan (b + 1) m rows → XSpan k gen l embed b m folded

  -- the same where they are those of a polynomial in x
  abbrev pub HalvesXSpan : ℕ → List (List E) → List E → Type 0
  HalvesXSpan m rows folded =
      (b : ℕ) → RowsXSpan (b + 1) m rows → XSpan k gen l embed b m folded

  -- where the codeword folded by beta and the one folded by some other gamma are both the values of
  -- polynomials in x, the rows are those of a polynomial with twice as many coefficients
  abbrev pub ShowsSpan : ℕ → E → List (List E) → List E → Type 0
  ShowsSpan m beta rows folded =
      (b : ℕ) (gamma : E) → gamma ≢ beta → XSpan k gen l embed b m folded
      → XSpan k gen l embed b m (y_folds k gen l embed m gamma rows) → RowsSpan (b + 1) m rows

  -- likewise for folds by x, and of a polynomial in x
  abbrev pub ShowsXSpan : ℕ → E → List (List E) → List E → Type 0
  ShowsXSpan m beta rows folded =
      (b : ℕ) (gamma : E) → gamma ≢ beta → XSpan k gen l embed b m folded
      → XSpan k gen l embed b m (x_folds k gen l embed m gamma rows) → RowsXSpan (b + 1) m rows
