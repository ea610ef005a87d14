-- How many entries a first layer folds into.
use Rattle.std.specs.Prelude.{◌≡◌, ℕ, ◌-◌, ◌^◌, List, [], ◌∷◌, length, map, drop, slice_index_or}
use Rattle.std.proofs.Common.{refl, sym, ◌∙◌, ap, arith}
use Rattle.std.proofs.lemmas.List.{length-map}
use Rattle.circle_commit.specs.RowMajorMatrix.{rows, height_of, length-rows}
use Rattle.circle_commit.specs.declared.matrix.RowMajorMatrix.{RowMajorMatrix}
use Rattle.circle_commit.proofs.Written.{length-pairwise}
use Rattle.circle_commit.specs.DotProduct.{pairwise}
use Rattle.circle_field.specs.Circle.{Coordinates}
use Rattle.circle_field.specs.Field.{FieldOps}
use Rattle.circle_folding.specs.Fold.{y_folds, fold_y_twiddles, fold_pair}
use Rattle.circle_folding.proofs.Twiddles.{length-fold_y_twiddles}

module _ {F E : Type 0} (k : FieldOps F) (gen : ℕ → Coordinates F) (l : FieldOps E) (embed : F → E)
    (bivariate : E) where
  -- one entry for each row
  pub length-y_folds : (m : ℕ) (pairs : List (List E)) → length pairs ≡ 2 ^ m →
      length (y_folds k gen l embed m bivariate pairs) ≡ 2 ^ m
  length-y_folds m pairs count =
      let ts = map embed (fold_y_twiddles k gen m) in
      let long : length ts ≡ 2 ^ m = length-map (fold_y_twiddles k gen m) embed
      ∙ length-fold_y_twiddles k gen m in
      length-pairwise (fold_pair l bivariate) ts pairs (long ∙ sym count) ∙ long

  -- half as many as the height, for each of the heights
  pub folded-lengths : (hs : List ℕ) (ms : List (RowMajorMatrix E)) → map height_of ms
      ≡ map (λ h. 2 ^ (h - 1)) hs →
      map length
      (pairwise (λ h pairs. y_folds k gen l embed (h - 1) bivariate pairs) hs (map rows ms))
      ≡ map (λ h. 2 ^ (h - 1)) hs
  folded-lengths [] ms tall = refl
  folded-lengths (h ∷ hs) [] tall = absurd (omega (arith, ap length tall))
  folded-lengths (h ∷ hs) (m ∷ ms) tall =
      let here : height_of m ≡ 2 ^ (h - 1) = ap (λ ns. slice_index_or ns 0 0) tall in
      ap
      (λ n. n
      ∷ map length
      (pairwise (λ h pairs. y_folds k gen l embed (h - 1) bivariate pairs) hs (map rows ms)))
      (length-y_folds (h - 1) (rows m) (length-rows m ∙ here))
      ∙ ap (λ rest. 2 ^ (h - 1) ∷ rest) (folded-lengths hs ms (ap (drop 1) tall))
