-- Rows of zeros beyond the coefficients change no value.
use Rattle.std.specs.Prelude.{◌≡◌, ℕ, ◌+◌, ◌-◌, ◌^◌, ◌<◌, ◌≤◌, List, [], ◌∷◌, ◌++◌, length, map}
use Rattle.std.specs.Prelude.{replicate, slice_index_or}
use Rattle.std.specs.List.{AllByRecursion}
use Rattle.std.proofs.Common.{zero, suc, sym, ◌∙◌, ap, refl, arith, length-append}
use Rattle.std.proofs.lemmas.List.{map-append, length-replicate, get_or-replicate}
use Rattle.std.proofs.lemmas.List.Elements.{recursion_from_All, All-from_recursion}
use Rattle.circle_field.specs.Field.{FieldOps, RingLaws}
use Rattle.circle_field.specs.RingFacts.{zero_mul}
use Rattle.circle_field.specs.Circle.{Coordinates}
use Rattle.circle_commit.specs.Matrix.{column}
use Rattle.circle_point.specs.Basis.{weighted_sum, circle_basis, value}
use Rattle.circle_domain.specs.Order.{cfft_order}
use Rattle.circle_domain.specs.Values.{HasValues, with_zero_rows, values_at}
use Rattle.circle_point.proofs.Bases.{shifted}
use Rattle.circle_domain.proofs.Blocks.{all-append}

module _ {F : Type 0} {k : FieldOps F} (laws : RingLaws k) where
  zeros-sum : (f : ℕ → F) (j count : ℕ) → weighted_sum k f j (replicate count k.zero) ≡ k.zero
  zeros-sum f j zero = refl
  zeros-sum f j (suc count) = ap (λ x. k.add x (weighted_sum k f (suc j) (replicate count k.zero)))
      (zero_mul laws (f j)) ∙ laws.zero_add _ ∙ zeros-sum f (suc j) count

  more-zeros : (f : ℕ → F) (j count : ℕ) (xs : List F) →
      weighted_sum k f j (xs ++ replicate count k.zero) ≡ weighted_sum k f j xs
  more-zeros f j count [] = zeros-sum f j count
  more-zeros f j count (x ∷ xs) = ap (k.add (k.mul x (f j))) (more-zeros f (suc j) count xs)

  column-zeros : (width count j : ℕ) → j < width →
      column k.zero (replicate count (replicate width k.zero)) j ≡ replicate count k.zero
  column-zeros width zero j h = refl
  column-zeros width (suc count) j h =
      ap (λ x. x ∷ column k.zero (replicate count (replicate width k.zero)) j)
      (get_or-replicate width j k.zero k.zero h)
      ∙ ap (λ rest. k.zero ∷ rest) (column-zeros width count j h)

  pub values_at-zeros : (width count : ℕ) (coeffs : List (List F)) (p : Coordinates F) →
      values_at k (with_zero_rows k.zero width count coeffs) width p ≡ values_at k coeffs width p
  values_at-zeros width count coeffs p =
      let read = λ (i : ℕ) (row : List F). slice_index_or row i k.zero in
      shifted (λ j. value k (column k.zero (with_zero_rows k.zero width count coeffs) j) p)
      (λ j. value k (column k.zero coeffs j) p) 0 0 width (λ j h.
      ap (λ c. value k c p)
      (map-append (read (0 + j)) coeffs (replicate count (replicate width k.zero))
      ∙ ap (λ c. column k.zero coeffs (0 + j) ++ c)
      (column-zeros width count (0 + j) (omega arith)))
      ∙ more-zeros (λ i. circle_basis k i p) 0 count (column k.zero coeffs (0 + j)))

  map-zeros : (width count : ℕ) (coeffs : List (List F)) (points : List (Coordinates F)) →
      map (values_at k (with_zero_rows k.zero width count coeffs) width) points
      ≡ map (values_at k coeffs width) points
  map-zeros width count coeffs [] = refl
  map-zeros width count coeffs (p ∷ points) =
      ap (λ x. x ∷ map (values_at k (with_zero_rows k.zero width count coeffs) width) points)
      (values_at-zeros width count coeffs p)
      ∙ ap (λ rest. values_at k coeffs width p ∷ rest) (map-zeros width count coeffs points)

  zeros-wide : (width count : ℕ) →
      AllByRecursion (λ row. length row ≡ width) (replicate count (replicate width k.zero))
  zeros-wide width zero = tt
  zeros-wide width (suc count) = (length-replicate width k.zero, zeros-wide width count)

  -- coefficients for a larger domain
  pub zeros-values : (gen : ℕ → Coordinates F) (n m : ℕ) (s t : Coordinates F) (width : ℕ)
      (coeffs rows others : List (List F)) → 2 ^ n ≤ 2 ^ m → HasValues k gen n s width coeffs rows →
      others ≡ map (values_at k coeffs width) (cfft_order k gen m t) →
      HasValues k gen m t width (with_zero_rows k.zero width (2 ^ m - 2 ^ n) coeffs) others
  zeros-values gen n m s t width coeffs rows others le has e =
      let Wide : List F → Type 0 = λ row. length row ≡ width in
      let count = 2 ^ m - 2 ^ n in
      record {
        height = length-append coeffs (replicate count (replicate width k.zero))
            ∙ omega (arith, has.height, length-replicate count (replicate width k.zero), le);
        widths = All-from_recursion Wide (with_zero_rows k.zero width count coeffs)
            (all-append Wide coeffs (replicate count (replicate width k.zero))
            (recursion_from_All Wide coeffs has.widths) (zeros-wide width count));
        values = map-zeros width count coeffs (cfft_order k gen m t) ∙ sym e;
      }
