-- Coefficients cut to `width` columns: the values of these are the same.
use Rattle.std.specs.Prelude.{◌≡◌, ℕ, ◌+◌, ◌^◌, ◌<◌, List, [], ◌∷◌, length, map, slice_index_or}
use Rattle.std.specs.List.{range_with_len}
use Rattle.std.proofs.Common.{refl, sym, ◌∙◌, ap, arith}
use Rattle.std.proofs.lemmas.List.{length-map}
use Rattle.std.proofs.lemmas.List.Elements.{All-map}
use Rattle.std.proofs.lemmas.List.FromFn.{get_or-map-range_with_len, length-map-range_with_len}
use Rattle.circle_field.specs.Field.{FieldOps}
use Rattle.circle_field.specs.Circle.{Coordinates}
use Rattle.circle_commit.specs.Matrix.{column}
use Rattle.circle_commit.proofs.ColumnSums.{map-agree}
use Rattle.circle_point.specs.Basis.{value}
use Rattle.circle_point.proofs.Bases.{shifted}
use Rattle.circle_domain.specs.Order.{cfft_order}
use Rattle.circle_domain.specs.Values.{HasValues, values_at}

module _ {F : Type 0} (k : FieldOps F) (width : ℕ) where
  abbrev cut_row : List F → List F
  cut_row row = map (λ j. slice_index_or row j k.zero) (range_with_len 0 width)

  abbrev pub cut : List (List F) → List (List F)
  cut coeffs = map cut_row coeffs

  cut-column : (j : ℕ) → j < width → (coeffs : List (List F)) → column k.zero (cut coeffs) j
      ≡ column k.zero coeffs j
  cut-column j lt [] = refl
  cut-column j lt (row ∷ coeffs) =
      ap (λ x. x ∷ column k.zero (cut coeffs) j)
      (get_or-map-range_with_len (λ i. slice_index_or row i k.zero) 0 width j j k.zero lt
      (omega arith))
      ∙ ap (λ xs. slice_index_or row j k.zero ∷ xs) (cut-column j lt coeffs)

  -- at any point
  pub cut-values : (coeffs : List (List F)) (p : Coordinates F) → values_at k (cut coeffs) width p
      ≡ values_at k coeffs width p
  cut-values coeffs p =
      let at = λ (cs : List (List F)) (j : ℕ). value k (column k.zero cs j) p in
      shifted (at (cut coeffs)) (at coeffs) 0 0 width
      (λ j lt. let z : 0 + j ≡ j = omega arith in ap (at (cut coeffs)) z
      ∙ ap (λ c. value k c p) (cut-column j lt coeffs) ∙ ap (at coeffs) (sym z))

-- so they have the values that the coefficients have on a domain
pub cut-told : {F : Type 0} (k : FieldOps F) (gen : ℕ → Coordinates F) (width n : ℕ)
    (s : Coordinates F) (coeffs rows : List (List F)) → length coeffs ≡ 2 ^ n →
    map (values_at k coeffs width) (cfft_order k gen n s) ≡ rows →
    HasValues k gen n s width (cut k width coeffs) rows
cut-told {F} k gen width n s coeffs rows count told = record {
  height = length-map coeffs _ ∙ count;
  widths = All-map (λ (row : List F). length row ≡ width) (cut_row k width) coeffs
      (λ i row lt. length-map-range_with_len _ 0 width);
  values = map-agree (values_at k (cut k width coeffs) width) (values_at k coeffs width)
      (cfft_order k gen n s)
      (λ i p lt. cut-values k width coeffs (slice_index_or (cfft_order k gen n s) i p)) ∙ told;
}
