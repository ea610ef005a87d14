-- What one claim on a matrix adds to sums over the points of its height.
use Rattle.std.specs.Prelude.{◌≡◌, ℕ, ◌+◌, ◌^◌, ◌<◌, ◌≤◌, ◌↔◌, true, List, [], ◌∷◌, length, map}
use Rattle.std.specs.Prelude.{slice_index_or}
use Rattle.std.proofs.Common.{refl, sym, ◌∙◌, ap, arith}
use Rattle.circle_field.specs.Circle.{AreGenerators, IsOnCircle, origin}
use Rattle.circle_field.specs.Field.{FieldLaws, IsEmbedding, nth_power, two}
use Rattle.circle_commit.specs.DotProduct.{dot}
use Rattle.circle_commit.specs.RowMajorMatrix.{height_of, length-rows, rows, rows-width, width_of}
use Rattle.circle_commit.specs.declared.matrix.RowMajorMatrix.{RowMajorMatrix}
use Rattle.circle_domain.proofs.CosetOrder.{length-cfft_order}
use Rattle.circle_folding.specs.Queries.{IsApart}
use Rattle.circle_folding.specs.Quotient.{ArePowers}
use Rattle.circle_point.specs.Projective.{from_line}
use Rattle.circle_relation.specs.Accepts.{Fields}
use Rattle.circle_relation.specs.Sums.{Adds}
use Rattle.circle_relation.proofs.ReducedSums.{adds-claim}
use Rattle.circle_codewords.specs.Lifts.{combined, read_rows}
use Rattle.circle_codewords.specs.Ratios.{points_of_height, vanishing_ratio, with_quotients}
use Rattle.circle_codewords.specs.Words.{claim_of}
use Rattle.circle_codewords.proofs.DomainPoints.{lifted-on, order-on}
use Rattle.circle_codewords.proofs.Lifts.{length-read, read-widths}
use Rattle.circle_codewords.proofs.Quotients.{fast-quotients}

module _ {F E : Type 0} (k : Fields F E) (laws : FieldLaws k.field) {bits : ℕ}
    (gens : AreGenerators k.field bits k.gen) (blowup h : ℕ) (m : RowMajorMatrix F)
    (positive : 1 ≤ h) (tall : height_of m ≡ 2 ^ h) where
  -- the rows of a matrix of 2^h rows as codewords read them; there are as many, and as many points
  abbrev read : List (List F)
  read = read_rows k blowup h (width_of m) (rows m)

  pub count-points : length (points_of_height k.field k.gen h) ≡ 2 ^ h
  count-points = length-cfft_order laws.ring gens h (k.gen (h + 1)) positive

  pub count-read : length read ≡ 2 ^ h
  count-read =
      length-read k laws gens blowup h (width_of m) positive (rows m) (length-rows m ∙ tall)

  module _ (above : FieldLaws k.extension)
      (same : (a b : E) → (k.same a b ≡ true) ↔ (a ≡ b))
      (embedding : IsEmbedding k.field k.extension k.embed) (below : h < bits) where
    -- a claim adds its quotients
    pub claim-adds : (alpha t : E) (powers values ratios combination old new : List E)
        (offset half power claimed : E) → ArePowers k.extension alpha powers →
        length values ≡ width_of m → length values ≤ length powers →
        IsOnCircle k.extension (from_line k.extension t) →
        IsApart k.embed (points_of_height k.field k.gen h) (from_line k.extension t) →
        half ≡ k.extension.mul offset (k.extension.inv (two k.extension)) →
        power ≡ nth_power k.extension alpha (length values) →
        claimed ≡ dot k.extension powers values →
        ratios ≡ map (vanishing_ratio k.extension k.embed (from_line k.extension t))
        (points_of_height k.field k.gen h) → combination ≡ combined k powers read →
        length old ≡ 2 ^ h →
        new ≡ with_quotients k.extension half (k.extension.mul half power) claimed ratios
        combination old →
        Adds k.extension k.embed alpha (points_of_height k.field k.gen h) (origin k.field)
        (λ j. (claim_of t values, slice_index_or read j []) ∷ []) offset
        (k.extension.mul (k.extension.mul offset power) power) old new
    claim-adds alpha t powers values ratios combination old new offset half power claimed are wide
        enough on apart is_half is_power is_claimed is_ratios is_combination long made =
        let l = k.extension in
        let points = points_of_height k.field k.gen h in
        let z = from_line l t in
        adds-claim above.ring k.embed alpha points (origin k.field) (claim_of t values) z read
        offset power old new refl is_power (count-points ∙ sym long) (count-read ∙ sym long)
        (made
        ∙ ap (λ rs. with_quotients l half (l.mul half power) claimed rs combination old) is_ratios
        ∙ ap (λ cs. with_quotients l half (l.mul half power) claimed
        (map (vanishing_ratio l k.embed z) points) cs old) is_combination
        ∙ fast-quotients above k.same same k.embed alpha offset half power claimed powers z values
        is_half are is_power is_claimed enough on points read old
        (lifted-on embedding points
        (order-on k.field laws.ring gens h (k.gen (h + 1)) (omega (arith, below)) positive
        (gens.on_circle (h + 1) (omega (arith, below))))) apart
        (λ j d lt. read-widths k laws gens blowup h (width_of m) positive (rows m) (rows-width m)
        j d lt ∙ sym wide))
