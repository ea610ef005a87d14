-- Folding a codeword by pairs: Circle STARKs (ePrint 2024/278), section 4.2.
use Rattle.std.specs.Prelude.{ℕ, ◌+◌, List, [], ◌∷◌, map, slice_index_or}
use Rattle.circle_field.specs.Field.{FieldOps, sub, two}
use Rattle.circle_field.specs.Circle.{Coordinates}
use Rattle.circle_domain.specs.Order.{coset}
use Rattle.circle_commit.specs.DotProduct.{pairwise}
use Rattle.circle_domain.specs.Layers.{every_second}

module _ {E : Type 0} (l : FieldOps E) where
  -- (a + b) / 2 + beta (a - b) / (2 t)
  abbrev pub fold : E → E → E → E → E
  fold a b t beta =
      l.add (l.mul (l.add a b) (l.inv (two l))) (l.mul (l.mul beta (sub l a b)) (l.inv (l.add t t)))

  -- the fold of a row of two entries
  abbrev pub fold_pair : E → E → List E → E
  fold_pair beta t [] = l.zero
  fold_pair beta t (a ∷ []) = l.zero
  fold_pair beta t (a ∷ b ∷ rest) = fold a b t beta

  -- the folds of rows of two entries, each by its own t
  abbrev pub folds : E → List E → List (List E) → List E
  folds beta ts pairs = pairwise (fold_pair beta) ts pairs

module _ {F : Type 0} (k : FieldOps F) (gen : ℕ → Coordinates F) where
  -- for each of the 2^m pairs of a codeword on the standard domain of 2^(m + 1) points, in the
  -- order of the transform, the y coordinate of its first point
  abbrev pub fold_y_twiddles : ℕ → List F
  fold_y_twiddles m = map (λ p. p.y) (coset k gen m (gen (m + 2)))

  -- for each of the 2^m pairs of a later codeword, on the x coordinates of 2^(m + 1) points, the
  -- first of its two x coordinates
  abbrev pub fold_x_twiddles : ℕ → List F
  fold_x_twiddles m = map (λ p. p.x) (every_second (coset k gen (m + 1) (gen (m + 3))))

module _ {F E : Type 0} (k : FieldOps F) (gen : ℕ → Coordinates F)
    (l : FieldOps E) (embed : F → E) where
  -- a first codeword of 2^(m + 1) entries, as 2^m rows of two, folded by y
  abbrev pub y_folds : ℕ → E → List (List E) → List E
  y_folds m beta rows = folds l beta (map embed (fold_y_twiddles k gen m)) rows

  -- a later codeword of 2^(m + 1) entries, as 2^m rows of two, folded by x
  abbrev pub x_folds : ℕ → E → List (List E) → List E
  x_folds m beta rows = folds l beta (map embed (fold_x_twiddles k gen m)) rows

  -- the pair at an index of such a codeword folded by x
  abbrev pub x_fold : ℕ → ℕ → E → List E → E
  x_fold m index beta pair =
      fold_pair l beta (embed (slice_index_or (fold_x_twiddles k gen m) index k.zero)) pair
