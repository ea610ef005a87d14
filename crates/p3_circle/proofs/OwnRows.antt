-- The rows that the codewords of an opening are made of.
use Rattle.std.specs.Prelude.{◌≡◌, ℕ, List, [], ◌∷◌, ◌++◌, map, flat_map, zip, All}
use Rattle.std.specs.List.{AllByRecursion, AllZip}
use Rattle.std.proofs.Common.{refl, sym, subst, ◌∙◌, ap, inl, inr, ⊎_elim}
use Rattle.std.proofs.lemmas.List.{map-append}
use Rattle.std.proofs.lemmas.List.Elements.{recursion_from_All}
use Rattle.circle_commit.specs.Pcs.{Openings}
use Rattle.circle_commit.specs.RowMajorMatrix.{height_of, rows, width_of}
use Rattle.circle_commit.specs.declared.matrix.RowMajorMatrix.{RowMajorMatrix}
use Rattle.circle_commit.specs.declared.params.FriParameters.{FriParameters}
use Rattle.circle_commit.specs.declared.pcs.OpeningRequest.{OpeningRequest}
use Rattle.circle_codewords.specs.Requests.{AreAnswers, AreRequests, AreValuesOf, IsFit, IsOpenable}
use Rattle.circle_codewords.specs.Ratios.{points_of_height}
use Rattle.circle_codewords.specs.Requests.{all_committed, batch_committed, log_of, points_of}
use Rattle.circle_codewords.specs.Words.{Committed}
use Rattle.circle_completeness.proofs.ReadRows.{HasReadRows, all-read}
use Rattle.circle_completeness.specs.Honest.{IsOfLowDegree}
use Rattle.circle_domain.specs.Values.{values_at}
use Rattle.circle_field.specs.Circle.{AreGenerators}
use Rattle.circle_field.specs.Field.{FieldLaws}
use Rattle.circle_relation.specs.Accepts.{Fields}
use Rattle.circle_prover.specs.Opening.{answered_matrices}
use Rattle.p3_circle.specs.Calls.{IsOver, ReadsOwnRowsIf, requested_rows}

module _ {F E : Type 0} (k : Fields F E) (bits blowup : ℕ) where
  abbrev read : List (Committed F E) → List (List (List F))
  read matrices = map (λ m. m.rows) matrices

  -- of a batch
  batch-rows : (ms : List (RowMajorMatrix F)) (points : List (List E))
      (values : List (List (List E))) → AllZip (IsOpenable k bits blowup) ms points →
      AllZip (λ m rest. AreValuesOf k blowup m rest.0 rest.1) ms (zip points values) →
      AllByRecursion (HasReadRows k blowup) ms →
      read (batch_committed k blowup ms points values) ≡ map rows ms
  batch-rows [] points values fit are same = refl
  batch-rows (m ∷ ms) [] values fit are same = absurd fit
  batch-rows (m ∷ ms) (t ∷ points) [] fit are same = absurd are
  batch-rows (m ∷ ms) (t ∷ points) (v ∷ values) fit are same =
      ap (λ r. r ∷ read (batch_committed k blowup ms points values)) same.0
      ∙ ap (λ l. rows m ∷ l) (batch-rows ms points values fit.1 are.1 same.1)

  -- of all
  all-rows : {D : Type 0} (kept : D → List (RowMajorMatrix F))
      (requests : List (OpeningRequest D E)) (values : Openings E) →
      AllByRecursion (IsFit kept k blowup bits) requests →
      AllZip (AreAnswers kept k blowup) requests values →
      AllByRecursion (λ r. All (HasReadRows k blowup) (kept r.prover_data.now)) requests →
      read (flat_map (λ b. b) (all_committed kept k blowup requests values))
      ≡ requested_rows kept requests
  all-rows kept [] values fit are same = refl
  all-rows kept (r ∷ requests) [] fit are same = absurd are
  all-rows kept (r ∷ requests) (v ∷ values) fit are same =
      let ms = kept r.prover_data.now in
      let here = batch_committed k blowup ms (points_of kept r) v in
      let others = flat_map (λ b. b) (all_committed kept k blowup requests values) in
      let listed = recursion_from_All (HasReadRows k blowup) ms same.0 in
      map-append (λ (m : Committed F E). m.rows) here others
      ∙ ap (λ l. l ++ read others) (batch-rows ms (points_of kept r) v fit.0 are.0.0 listed)
      ∙ ap (λ l. map rows ms ++ l) (all-rows kept requests values fit.1 are.1 same.1)
      ∙ sym (map-append rows ms (flat_map (λ q. kept q.prover_data.now) requests))

-- of low degree by the field and the generators alone
pub low-over : {F E : Type 0} (k others : Fields F E) → IsOver k.field k.gen others →
    (blowup : ℕ) (m : RowMajorMatrix F) → IsOfLowDegree others blowup m → IsOfLowDegree k blowup m
low-over k others over blowup m low =
    let n = log_of (height_of m) in
    record {
      coeffs = low.coeffs;
      count = low.count;
      values =
          subst (λ gen. map (values_at k.field low.coeffs (width_of m))
          (points_of_height k.field gen n) ≡ rows m) over.1
          (subst (λ f. map (values_at f low.coeffs (width_of m))
          (points_of_height f others.gen n) ≡ rows m) over.0 low.values);
    }

-- those that were committed to, where the matrices are of low degree or have few columns
pub own-rows : {D F E M : Type 0} (k : Fields F E) (base : FieldLaws k.field) {bits : ℕ}
    (gens : AreGenerators k.field bits k.gen) (p : FriParameters M)
    (kept : D → List (RowMajorMatrix F)) (requests : List (OpeningRequest D E))
    (values : Openings E) → AreRequests kept k bits p requests →
    AllZip (AreAnswers kept k p.log_blowup) requests values →
    ReadsOwnRowsIf k.field k.gen kept p requests values
own-rows {F = F} {E = E} k base {bits} gens p kept requests values asked answers =
    let Own : Fields F E → Type 0 =
    λ l. map (λ m. m.rows) (answered_matrices l p kept requests values)
    ≡ requested_rows kept requests in
    λ others over as_is.
    let own : Own k =
    all-rows k bits p.log_blowup kept requests values
    (recursion_from_All (IsFit kept k p.log_blowup bits) requests asked.fit) answers
    (all-read k base gens p kept requests asked.fit
    (λ i d lt j e lt'. ⊎_elim inl (λ low. inr (low-over k others over _ _ low))
    (as_is i d lt j e lt'))) in
    subst (λ gen. Own (record others { gen = gen })) (sym over.1)
    (subst (λ f. Own (record others { field = f; gen = k.gen })) (sym over.0) own)
