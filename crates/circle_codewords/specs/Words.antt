-- The codewords that an opening makes of committed matrices: Circle STARKs (ePrint 2024/278),
-- sections 4 to 6.
use Rattle.std.specs.Prelude.{◌≡◌, ℕ, ◌-◌, ◌/◌, ◌^◌, ◌<◌, ◌==◌, if◌then◌else◌, List, []}
use Rattle.std.specs.Prelude.{length, map, flat_map, All, slice_index_or, Vec}
use Rattle.std.specs.declared.alloc.Global.{Global}
use Rattle.std.specs.List.{list_any, range_with_len}
use Rattle.circle_field.specs.Circle.{Coordinates, origin}
use Rattle.circle_field.specs.Field.{FieldOps}
use Rattle.circle_commit.specs.Matrix.{rows_from}
use Rattle.circle_commit.specs.RowMajorMatrix.{rows, width_of, height_of}
use Rattle.circle_commit.specs.DotProduct.{pairwise}
use Rattle.circle_folding.specs.Fold.{y_folds, x_folds}
use Rattle.circle_folding.specs.Lambda.{lambda_of, remainder_of}
use Rattle.circle_relation.specs.Sums.{Adds, reduced}
use Rattle.circle_relation.specs.Accepts.{Fields}
use Rattle.circle_relation.specs.Statement.{PointClaim}
use Rattle.circle_commit.specs.declared.matrix.RowMajorMatrix.{RowMajorMatrix}
use Rattle.circle_codewords.specs.Lifts.{read_rows}
use Rattle.circle_codewords.specs.Points.{coordinates_of}
use Rattle.circle_codewords.specs.Ratios.{points_of_height}
use Rattle.circle_codewords.specs.declared.matrix.OpenedMatrix.{OpenedMatrix}

-- a committed matrix: the logarithm of its height, its rows as codewords read them, and the points
-- that it is opened at with its columns' values there
pub record Committed (F E : Type 0) : Type 0 where
  pub log_height : ℕ
  pub rows : List (List F)
  pub claims : List (PointClaim E)

abbrev pub claim_of : {E : Type 0} → E → List E → PointClaim E
claim_of point values = record { point = point; values = values }

module _ {F E : Type 0} where
  -- the claims on a matrix, each with its row at a place
  abbrev pub claims_on : Committed F E → ℕ → List (PointClaim E × List F)
  claims_on m i = map (λ c. (c, slice_index_or m.rows i [])) m.claims

  -- those on matrices of height 2^h
  abbrev pub claims_at : ℕ → List (Committed F E) → ℕ → List (PointClaim E × List F)
  claims_at h matrices i =
      flat_map (λ m. if m.log_height == h then claims_on m i else []) matrices

module _ {F E : Type 0} (k : Fields F E) (alpha : E) (matrices : List (Committed F E)) where
  -- the codeword of height 2^h: at each place the quotients of the claims on matrices of that
  -- height, each times alpha to twice the number of columns that are claimed before it, added up
  abbrev pub reduced_word : ℕ → List E
  reduced_word h =
      let points = points_of_height k.field k.gen h in
      map (λ i. reduced k.extension k.embed alpha 0 (slice_index_or points i (origin k.field))
      (claims_at h matrices i)) (range_with_len 0 (2 ^ h))

  module _ (blowup : ℕ) where
    -- its multiple of the vanishing polynomial, and what is left of it without that
    abbrev pub lambda : ℕ → E
    lambda h = lambda_of k.field k.gen k.extension k.embed blowup h (reduced_word h)

    abbrev pub corrected_word : ℕ → List E
    corrected_word h =
        remainder_of k.field k.gen k.extension k.embed blowup h (lambda h) (reduced_word h)

-- a codeword as rows of two
abbrev pub pairs_of : {E : Type 0} → List E → List (List E)
pairs_of word = rows_from 2 (length word / 2) word

-- what contracts see of a matrix that is opened
abbrev pub committed_of : {F E : Type 0} {over g : _} → Fields F E → ℕ → OpenedMatrix F E over g
    → Committed F E
committed_of k blowup m = record {
  log_height = m.log_height;
  rows = read_rows k blowup m.log_height (width_of m.rows.now) (rows m.rows.now);
  claims = pairwise (λ t v. claim_of t v.items) (coordinates_of m.points.now) m.values.now;
}

-- the logarithm of a height that leaves something of its codeword without the blowup
abbrev pub IsHeight : ℕ → ℕ → ℕ → Type 0
IsHeight two_adicity blowup h = (blowup < h) × (h < two_adicity)

-- a matrix of half as many rows of two for each of the heights 2^h
pub record HaveHeights {E : Type 0} (heights : List ℕ) (layers : List (RowMajorMatrix E))
    : Type 0 where
  pub count : length layers ≡ length heights
  pub width : All (λ m. width_of m ≡ 2) layers
  pub height : map height_of layers ≡ map (λ h. 2 ^ (h - 1)) heights

-- a codeword with what was folded from the height 2^h, where that is one of the heights
abbrev pub joined : {E : Type 0} → FieldOps E → List ℕ → (ℕ → List E) → ℕ → List E → List E
joined l heights folded h word =
    if list_any (λ n. n == h) heights then pairwise l.add word (folded h) else word

-- the codeword that follows one of 2^h entries: its fold by x, and what joins there
abbrev pub next_word : {F E : Type 0} → Fields F E → List ℕ → (ℕ → List E) → ℕ → E → List E → List E
next_word k heights folded h beta word =
    joined k.extension heights folded h
    (x_folds k.field k.gen k.extension k.embed (h - 1) beta (pairs_of word))

-- the codewords of matrices that are opened
module _ {F E : Type 0} {over g : _} (k : Fields F E) (matrices : List (OpenedMatrix F E over g))
    (blowup : ℕ) where
  abbrev pub opened_word : E → ℕ → List E
  opened_word alpha = reduced_word k alpha (map (committed_of k blowup) matrices)

  -- the codeword's multiple of the vanishing polynomial, and what is left, in rows of two
  abbrev pub opened_lambda : E → ℕ → E
  opened_lambda alpha = lambda k alpha (map (committed_of k blowup) matrices) blowup

  abbrev pub opened_rows : E → ℕ → List (List E)
  opened_rows alpha h =
      pairs_of (corrected_word k alpha (map (committed_of k blowup) matrices) blowup h)

  abbrev pub layers_of : E → List ℕ → List (List (List E))
  layers_of alpha heights = map (opened_rows alpha) heights

-- to sums over the points of its height, what the claims on a matrix that is opened add
abbrev pub AddsClaims : {F E : Type 0} {over g : _} → Fields F E → ℕ → OpenedMatrix F E over g → E
    → E → E → List E → List E → Type 0
AddsClaims k blowup m alpha =
    Adds k.extension k.embed alpha (points_of_height k.field k.gen m.log_height) (origin k.field)
    (claims_on (committed_of k blowup m))

-- what rows of two of the height 2^h fold into by y
abbrev pub y_folds_at : {F E : Type 0} → FieldOps F → (ℕ → Coordinates F) → FieldOps E → (F → E) → E
    → ℕ → List (List E) → List E
y_folds_at k gen l embed bivariate h layer = y_folds k gen l embed (h - 1) bivariate layer

abbrev pub y_folded : {F E : Type 0} → Fields F E → E → ℕ → List (List E) → List E
y_folded k = y_folds_at k.field k.gen k.extension k.embed

-- whatever the codewords of the heights are called, the codeword that follows these rows of two of
-- the height 2^h: their fold by x, and what joins there
abbrev pub IsNextWord : {F E : Type 0} → FieldOps F → (ℕ → Coordinates F) → FieldOps E → (F → E)
    → List ℕ → List (Vec E Global) → ℕ → E → List (List E) → List E → Type 0
IsNextWord k gen l embed heights folded h beta layer word =
    (f : ℕ → List _) → map (λ w. w.items) folded ≡ map f heights →
    word ≡ joined l heights f h (x_folds k gen l embed (h - 1) beta layer)
