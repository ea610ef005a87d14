-- The numbers of a shape's labels have eight bytes.
use Rattle.std.specs.Prelude.{◌≡◌, ℕ, ◌<◌, ◌≤◌, ◌^◌, ◌==◌, if◌then◌else◌, List, [], ◌∷◌, ◌++◌}
use Rattle.std.specs.Prelude.{length, All, Vec}
use Rattle.std.specs.List.{AllByRecursion}
use Rattle.std.proofs.Common.{zero, suc, sym, ap, ◌∙◌, append_assoc, arith}
use Rattle.std.proofs.lemmas.List.{length-map}
use Rattle.std.proofs.lemmas.List.Elements.{All-from_recursion}
use Rattle.std.proofs.Math.Dec.{eqb-suc-zero}
use Rattle.circle_challenger.specs.Separator.{Separator}
use Rattle.circle_challenger.specs.Step.{be64}
use Rattle.circle_transcript.specs.ShapeOf.{matrices_of, batches_of, shape_of}
use Rattle.circle_transcript.specs.Shape.{HasWritableLabels}
use Rattle.circle_transcript.specs.declared.shape.CirclePcsShape.{CirclePcsShape}

few : {X R : Type 0} (v : Vec X R) → length v.items < 2 ^ 64
few v = omega (arith, v.ok.0, v.small)

points : {R : Type 0} (matrices : List (Vec ℕ R)) →
    AllByRecursion (λ matrix. length matrix < 2 ^ 64) (matrices_of matrices)
points [] = tt
points (m ∷ ms) = (few m, points ms)

module _ {R : Type 0} where
  batch_sizes : (batches : List (Vec (Vec ℕ R) R)) →
      AllByRecursion (λ batch. length batch < 2 ^ 64) (batches_of batches)
  batch_sizes [] = tt
  batch_sizes (b ∷ bs) =
      (let n = few b in omega (arith, n, length-map b.items (λ m. m.items)), batch_sizes bs)

  batch_points : (batches : List (Vec (Vec ℕ R) R)) →
      AllByRecursion (λ batch. All (λ matrix. length matrix < 2 ^ 64) batch) (batches_of batches)
  batch_points [] = tt
  batch_points (b ∷ bs) = (
    All-from_recursion (λ matrix. length matrix < 2 ^ 64) (matrices_of b.items) (points b.items),
    batch_points bs,
  )

pub writable_labels : (s : CirclePcsShape) → s.log_blowup < 2 ^ 64 → s.log_final_poly_len ≤ 63 →
    HasWritableLabels (shape_of s)
writable_labels s low few_coefficients =
    let batches = s.opened_widths.items in
    record {
      log_blowup = low;
      log_final_poly_len = omega (arith, few_coefficients);
      batch_count = let n = few s.opened_widths in
          omega (arith, n, length-map batches (λ b. matrices_of b.items));
      matrix_counts = All-from_recursion (λ batch. length batch < 2 ^ 64) (batches_of batches)
          (batch_sizes batches);
      point_counts = All-from_recursion (λ batch. All (λ matrix. length matrix < 2 ^ 64) batch)
          (batches_of batches) (batch_points batches);
    }

-- a separator with more labels
abbrev with_labels : Separator → List (List ℕ) → Separator
with_labels s labels = record s { labels = s.labels ++ labels }

with_two : (s t u : Separator) (a b : List ℕ) → t ≡ with_labels s (a ∷ []) →
    u ≡ with_labels t (b ∷ []) → u ≡ with_labels s (a ∷ b ∷ [])
with_two s t u a b first second =
    second ∙ ap (λ x. with_labels x (b ∷ [])) first
    ∙ ap (λ ls. record s { labels = ls }) (append_assoc s.labels (a ∷ []) (b ∷ []))

-- two labels, where there is no third one
pub two_labels : (s t u : Separator) (a b x y : List ℕ) (n : ℕ) → t ≡ with_labels s (a ∷ []) →
    u ≡ with_labels t (b ∷ []) → a ≡ x → b ≡ y → n ≡ 0 →
    u ≡ with_labels s (x ∷ y ∷ (if n == 0 then [] else be64 n ∷ []))
two_labels s t u a b x y n first second same too none =
    with_two s t u a b first second ∙ ap (λ l. with_labels s (l ∷ b ∷ [])) same
    ∙ ap (λ l. with_labels s (x ∷ l ∷ [])) too
    ∙ ap (λ k. with_labels s (x ∷ y ∷ (if k == 0 then [] else be64 n ∷ []))) (sym none)

-- two labels and a third one
pub three_labels : (s t u : Separator) (a b c x y : List ℕ) (n : ℕ) → t ≡ with_labels s (a ∷ []) →
    u ≡ with_labels t (b ∷ []) → a ≡ x → b ≡ y → c ≡ be64 n → 0 < n →
    with_labels u (c ∷ []) ≡ with_labels s (x ∷ y ∷ (if n == 0 then [] else be64 n ∷ []))
three_labels s t u a b c x y zero first second same too third some = absurd (omega (arith, some))
three_labels s t u a b c x y (suc n) first second same too third some =
    ap (λ v. with_labels v (c ∷ [])) (with_two s t u a b first second)
    ∙ ap (λ ls. record s { labels = ls }) (append_assoc s.labels (a ∷ b ∷ []) (c ∷ []))
    ∙ ap (λ l. with_labels s (l ∷ b ∷ c ∷ [])) same ∙ ap (λ l. with_labels s (x ∷ l ∷ c ∷ [])) too
    ∙ ap (λ l. with_labels s (x ∷ y ∷ l ∷ [])) third
    ∙ ap (λ z. with_labels s (x ∷ y ∷ (if z then [] else be64 (suc n) ∷ []))) (sym (eqb-suc-zero n))
