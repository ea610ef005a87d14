-- The values of a committed trace on a standard domain are those of the polynomials of its rows.
use Rattle.std.specs.Prelude.{◌≡◌, ℕ, ◌+◌, ◌-◌, ◌^◌, ◌≤◌, ◌<◌, List, [], ◌∷◌, length, map, take}
use Rattle.std.proofs.Common.{sym, ◌∙◌, ap, refl, subst, arith, ⊎_elim}
use Rattle.std.proofs.lemmas.Bool.{cases_eq}
use Rattle.std.proofs.lemmas.List.{length-map, take-map}
use Rattle.circle_field.specs.Field.{FieldOps, FieldLaws}
use Rattle.circle_field.specs.Circle.{Coordinates, AreGenerators}
use Rattle.circle_field.specs.declared.field.Operations.{Ghosts}
use Rattle.circle_commit.specs.RowMajorMatrix.{height_of, length-rows, rows, width_of}
use Rattle.circle_commit.specs.declared.matrix.RowMajorMatrix.{RowMajorMatrix}
use Rattle.circle_domain.specs.Domain.{IsStandardOf, log_size, shift_of}
use Rattle.circle_domain.specs.Order.{cfft_order, natural_order}
use Rattle.circle_domain.specs.Ordering.{other_order}
use Rattle.circle_domain.specs.Values.{HasValues, values_at}
use Rattle.circle_domain.specs.declared.domain.CircleDomain.{CircleDomain}
use Rattle.circle_domain.proofs.Blocks.{cfft_order-prefix}
use Rattle.circle_domain.proofs.CosetOrder.{other_order-points}
use Rattle.circle_domain.proofs.Orders.{length-natural_from, two_halves}
use Rattle.circle_domain.proofs.Powers.{pow_injective}
use Rattle.p3_circle.specs.Committing.{AreCommittedValues, AreExtensions, AreValuesOfMatrix}
use Rattle.p3_circle.specs.Committing.{HaveNaturalValues, IsExtension}
use Rattle.circle_stark.specs.Honest.{AreContinuedOn, ContinuesTrace}

module _ {F : Type 0} {g : Ghosts F} {k : FieldOps F} (base : FieldLaws k) {gen : ℕ → Coordinates F}
    {bits : ℕ} (gens : AreGenerators k bits gen) (blowup n m : ℕ) (positive : 1 ≤ n)
    (larger : 1 ≤ m) (fits : n + blowup < bits) (domain : CircleDomain F g)
    (given : RowMajorMatrix F) (standard : IsStandardOf gen n domain) (kept : RowMajorMatrix F)
    (extension : IsExtension k gen blowup domain given kept) (target : CircleDomain F g)
    (on : IsStandardOf gen m target) (made : RowMajorMatrix F)
    (committed : AreCommittedValues k gen blowup kept target made) where
  -- the values at a point by the coefficients of the extension
  abbrev by : Coordinates F → List F
  by = values_at k extension.coeffs (width_of given)

  -- the number of points that the matrix is committed on
  height : committed.log_height ≡ n + blowup
  height =
      pow_injective committed.log_height (n + blowup)
      (sym committed.height ∙ extension.height ∙ ap (λ i. 2 ^ (i + blowup)) standard.0)

  -- the rows that are kept, in the transform's order
  kept-rows : rows kept
      ≡ map by (cfft_order k gen committed.log_height (gen (committed.log_height + 1)))
  kept-rows =
      extension.values
      ∙ ap (λ i. map by (cfft_order k gen i (gen (i + 1))))
      (ap (λ i. i + blowup) standard.0 ∙ sym height)

  -- on its own domain
  own : m ≡ committed.log_height → rows made ≡ map by (natural_order k gen m (gen (m + 1)))
  own same =
      committed.there (on.0 ∙ same, on.1)
      ∙ ap (other_order committed.log_height) kept-rows
      ∙ other_order-points base.ring gens by committed.log_height
      (gen (committed.log_height + 1)) (omega (arith, height, positive))
      (omega (arith, height, fits))
      ∙ ap (λ i. map by (natural_order k gen i (gen (i + 1)))) (sym same)

  -- elsewhere
  other : (m ≡ committed.log_height → ⊥) →
      rows made ≡ map by (natural_order k gen m (gen (m + 1)))
  other differs =
      let h = committed.log_height in
      let less : h - blowup ≡ n = omega (arith, height) in
      let width = extension.width in
      let first = committed.elsewhere (λ (is : IsStandardOf gen h target).
      differs (sym on.0 ∙ is.0)) in
      let has : HasValues k gen (h - blowup) (gen (h + 1)) (width_of kept) extension.coeffs
      (take (2 ^ (h - blowup)) (rows kept)) =
      subst
      (λ w. HasValues k gen (h - blowup) (gen (h + 1)) w extension.coeffs
      (take (2 ^ (h - blowup)) (rows kept))) (sym width)
      (record {
        height = extension.told.height ∙ ap (λ i. 2 ^ i) (standard.0 ∙ sym less);
        widths = extension.told.widths;
        values =
            ap (map by) (sym (cfft_order-prefix k gen (h - blowup) h (gen (h + 1))
            (omega (arith, less, positive)) (omega arith)))
            ∙ sym (take-map by (2 ^ (h - blowup)) (cfft_order k gen h (gen (h + 1))))
            ∙ ap (take (2 ^ (h - blowup))) (sym kept-rows);
      }) in
      first.values
      ∙ ap (λ c. map (values_at k c (width_of kept)) (natural_order k gen (log_size target)
      (shift_of target))) (first.only extension.coeffs has)
      ∙ ap (λ w. map (values_at k extension.coeffs w) (natural_order k gen (log_size target)
      (shift_of target))) width
      ∙ ap (λ s. map by (natural_order k gen (log_size target) s)) on.1
      ∙ ap (λ i. map by (natural_order k gen i (gen (i + 1)))) on.0

  by-coefficients : rows made ≡ map by (natural_order k gen m (gen (m + 1)))
  by-coefficients = ⊎_elim own other (cases_eq m committed.log_height)

  tall : height_of made ≡ 2 ^ m
  tall =
      sym (length-rows made) ∙ ap length by-coefficients
      ∙ length-map (natural_order k gen m (gen (m + 1))) by
      ∙ length-natural_from k (2 ^ (m - 1)) (gen (m - 1)) (gen (m + 1)) 0 ∙ two_halves m larger

  continued : AreContinuedOn k gen n m given made
  continued = record {
    width = committed.width ∙ extension.width;
    values = λ coeffs has.
        let f : HaveNaturalValues k gen (log_size domain) (shift_of domain) (width_of given) coeffs
        (rows given) =
        subst (λ s. HaveNaturalValues k gen (log_size domain) s (width_of given) coeffs
        (rows given)) (sym standard.1)
        (subst (λ i. HaveNaturalValues k gen i (gen (i + 1)) (width_of given) coeffs (rows given))
        (sym standard.0) has) in
        by-coefficients
        ∙ ap (λ c. map (values_at k c (width_of given)) (natural_order k gen m (gen (m + 1))))
        (extension.only coeffs f);
  }

-- one matrix is kept of one matrix
pub one-kept : {F : Type 0} {g : Ghosts F} (k : FieldOps F) (gen : ℕ → Coordinates F) (blowup : ℕ)
    (given : CircleDomain F g × RowMajorMatrix F) (matrices : List (RowMajorMatrix F)) →
    AreExtensions k gen blowup (given ∷ []) matrices → length matrices ≡ 1
one-kept k gen blowup given [] extended = absurd extended
one-kept k gen blowup given (kept ∷ []) extended = refl
one-kept k gen blowup given (kept ∷ other ∷ rest) extended = absurd extended.1

-- of what is kept of one trace
module _ {F : Type 0} {g : Ghosts F} {k : FieldOps F} (base : FieldLaws k)
    {gen : ℕ → Coordinates F} {bits : ℕ} (gens : AreGenerators k bits gen) (blowup n m : ℕ)
    (positive : 1 ≤ n) (larger : 1 ≤ m) (fits : n + blowup < bits) (target : CircleDomain F g)
    (on : IsStandardOf gen m target) (made : RowMajorMatrix F) where
  pub continues : (matrices : List (RowMajorMatrix F)) →
      AreValuesOfMatrix k gen blowup matrices 0 target made →
      ContinuesTrace g k gen blowup n m matrices made
  continues [] values = λ domain given standard extended. absurd extended
  continues (kept ∷ []) values = λ domain given standard extended.
      continued base gens blowup n m positive larger fits domain given standard kept extended.0
      target on made values
  continues (kept ∷ other ∷ rest) values = λ domain given standard extended. absurd extended.1

  pub continues-tall : (matrices : List (RowMajorMatrix F)) →
      AreValuesOfMatrix k gen blowup matrices 0 target made → (domain : CircleDomain F g) →
      (given : RowMajorMatrix F) → IsStandardOf gen n domain →
      AreExtensions k gen blowup ((domain, given) ∷ []) matrices → height_of made ≡ 2 ^ m
  continues-tall [] values domain given standard extended = absurd extended
  continues-tall (kept ∷ []) values domain given standard extended =
      tall base gens blowup n m positive larger fits domain given standard kept extended.0 target on
      made values
  continues-tall (kept ∷ other ∷ rest) values domain given standard extended = absurd extended.1
