-- Committed matrices that are opened, as clauses see them. The dictionary of their fields is an
-- argument of their types.
use Rattle.std.specs.Prelude.{◌≡◌, ℕ, ◌-◌, ◌^◌, List, length, map, All, IsNone, Option}
use Rattle.std.specs.Borrow.{Bor}
use Rattle.circle_commit.specs.RowMajorMatrix.{rows, width_of}
use Rattle.circle_commit.specs.declared.matrix.RowMajorMatrix.{RowMajorMatrix}
use Rattle.circle_domain.specs.declared.lagrange.LagrangeWeights.{LagrangeWeights}
use Rattle.circle_relation.specs.Accepts.{Fields}
use Rattle.circle_codewords.specs.Lifts.{combined, read_rows}
use Rattle.circle_codewords.specs.Lifts as lifts
use Rattle.circle_codewords.specs.Points.{coordinates_of}
use Rattle.circle_codewords.specs.Ratios.{HasRatios}
use Rattle.circle_codewords.specs.Values.{AreOpened, AreWeightsOf, CanBeOpened}
use Rattle.circle_codewords.specs.Words.{Committed, committed_of}
use Rattle.circle_codewords.specs.Words as words
use Rattle.circle_codewords.specs.declared.matrix.BatchedMatrices.{BatchedMatrices}
use Rattle.circle_codewords.specs.declared.matrix.MatrixAtPoints.{MatrixAtPoints}
use Rattle.circle_codewords.specs.declared.matrix.OpenedMatrix.{OpenedMatrix}
use Rattle.circle_codewords.specs.declared.matrix.PointWeights.{PointWeights}
use Rattle.circle_codewords.specs.declared.points.OpeningPoint.{OpeningPoint}
use Rattle.circle_codewords.specs.declared.ratios.PointRatios.{PointRatios}

module _ {F E : Type 0} {over g : _} where
  -- the field with its circle, and the extension
  abbrev pub fields_at : MatrixAtPoints F E over g → Fields F E
  fields_at m = over.fields

  abbrev pub fields_in : OpenedMatrix F E over g → Fields F E
  fields_in m = over.fields

  abbrev pub fields_of : BatchedMatrices F E over g → Fields F E
  fields_of b = over.fields

  -- there is no matrix with points only where it can't be opened at them
  abbrev pub IsNoneRightly : Option (MatrixAtPoints F E over g) → ℕ → RowMajorMatrix F → List E
      → Type 0
  IsNoneRightly made h rows points = IsNone made → CanBeOpened over.fields h rows points → ⊥

  -- these are the Lagrange polynomials of a matrix's first points at a point, a share for each
  pub record AreWeightsFor (m : MatrixAtPoints F E over g) (blowup : ℕ) (p : OpeningPoint E g)
      (weights : Bor (LagrangeWeights E)) : Type 0 where
    pub count : length weights.now.shares.items ≡ 2 ^ (m.log_height - blowup)
    pub sum : AreWeightsOf over.fields blowup m.log_height p.coordinate weights.now

  -- at each of a matrix's points the values of the polynomials that its first rows fix
  abbrev pub AreValuesAt : MatrixAtPoints F E over g → ℕ → List (List E) → Type 0
  AreValuesAt m blowup values =
      AreOpened over.fields blowup m.log_height m.rows.now (coordinates_of m.points.now) values

  -- the ratios of each point of a matrix were made
  abbrev pub HaveRatios : List (PointRatios E) → OpenedMatrix F E over g → Type 0
  HaveRatios all m = All (λ p. HasRatios all p.coordinate) m.points.now

  -- a codeword of a matrix's height by its first entries; the combination of the rows that
  -- codewords read of the matrix
  abbrev pub extended_word : OpenedMatrix F E over g → ℕ → List E → List E
  extended_word m blowup = lifts.extended_word over.fields blowup m.log_height

  abbrev pub combined_of : OpenedMatrix F E over g → ℕ → List E → List E
  combined_of m blowup powers = combined over.fields powers
      (read_rows over.fields blowup m.log_height (width_of m.rows.now) (rows m.rows.now))

-- weights are those of a height and a point under a blowup
abbrev pub IsFor : {F E : Type 0} {over : _} → ℕ → ℕ → E → PointWeights F E over → Type 0
IsFor blowup h t w = (w.log_blowup ≡ blowup) × (w.log_height ≡ h) × (w.point ≡ t)

module _ {F E : Type 0} {over g : _} (b : BatchedMatrices F E over g) where
  -- the matrices as codewords read them
  abbrev pub seen : List (Committed F E)
  seen = map (committed_of over.fields b.log_blowup) b.matrices.now

  -- of each height the codeword, its multiple of the vanishing polynomial, and what is left of it
  -- in rows of two
  abbrev pub word_at : ℕ → List E
  word_at = words.opened_word over.fields b.matrices.now b.log_blowup b.alpha

  abbrev pub lambda_at : ℕ → E
  lambda_at = words.opened_lambda over.fields b.matrices.now b.log_blowup b.alpha

  abbrev pub rows_at : ℕ → List (List E)
  rows_at = words.opened_rows over.fields b.matrices.now b.log_blowup b.alpha

  -- to sums over the points of its height, what the claims on a matrix add
  abbrev pub AddsClaims : OpenedMatrix F E over g → E → E → List E → List E → Type 0
  AddsClaims m = words.AddsClaims over.fields b.log_blowup m b.alpha
