-- Matrices whose rows are those that codewords read.
use Rattle.std.specs.Prelude.{◌≡◌, ℕ, ◌+◌, ◌-◌, ◌^◌, ◌<◌, Bool, true, false, if◌then◌else◌, List}
use Rattle.std.specs.Prelude.{map, take, nat_le, All, slice_index_or}
use Rattle.std.specs.List.{AllByRecursion}
use Rattle.std.proofs.Common.{refl, sym, ◌∙◌, ap, arith, inr, ⊎_elim}
use Rattle.std.proofs.lemmas.Bool.{lt-leb}
use Rattle.std.proofs.lemmas.List.{take-map}
use Rattle.std.proofs.lemmas.List.Elements.{recursion_from_All}
use Rattle.circle_field.specs.Field.{FieldLaws}
use Rattle.circle_field.specs.Circle.{AreGenerators}
use Rattle.circle_commit.specs.RowMajorMatrix.{rows, width_of, height_of}
use Rattle.circle_commit.specs.declared.matrix.RowMajorMatrix.{RowMajorMatrix}
use Rattle.circle_commit.specs.declared.params.FriParameters.{FriParameters}
use Rattle.circle_commit.specs.declared.pcs.OpeningRequest.{OpeningRequest}
use Rattle.circle_commit.proofs.ColumnSums.{map-agree}
use Rattle.circle_domain.specs.Order.{cfft_order}
use Rattle.circle_domain.specs.Values.{HasValues, values_at}
use Rattle.circle_domain.proofs.Blocks.{cfft_order-prefix}
use Rattle.circle_relation.specs.Accepts.{Fields}
use Rattle.circle_codewords.specs.Lifts.{extended_row, extended_rows, lift_width, read_rows}
use Rattle.circle_codewords.specs.Ratios.{points_of_height}
use Rattle.circle_codewords.proofs.Lifts.{extended-values}
use Rattle.circle_codewords.specs.Requests.{IsFit, log_of}
use Rattle.circle_prover.proofs.Answered.{fit-known}
use Rattle.circle_completeness.proofs.Cut.{cut, cut-told, cut-values}
use Rattle.circle_completeness.specs.Honest.{AreOfLowDegree, AreReadAsIs, IsOfLowDegree, IsReadAsIs}

module _ {F E : Type 0} (k : Fields F E) (blowup : ℕ) where
  -- the rows that codewords read of a matrix are its rows
  abbrev pub HasReadRows : RowMajorMatrix F → Type 0
  HasReadRows m = read_rows k blowup (log_of (height_of m)) (width_of m) (rows m) ≡ rows m

  -- the first rows of one of low degree are the values at the first points
  pub first-values : (m : RowMajorMatrix F) (low : IsOfLowDegree k blowup m) →
      blowup < log_of (height_of m) →
      let h = log_of (height_of m) in
      take (2 ^ (h - blowup)) (rows m) ≡ map (values_at k.field low.coeffs (width_of m))
      (cfft_order k.field k.gen (h - blowup) (k.gen (h + 1)))
  first-values m low below =
      let h = log_of (height_of m) in
      let n = h - blowup in
      let f = values_at k.field low.coeffs (width_of m) in
      ap (take (2 ^ n)) (sym low.values) ∙ take-map f (2 ^ n) (points_of_height k.field k.gen h)
      ∙ ap (map f)
      (cfft_order-prefix k.field k.gen n h (k.gen (h + 1)) (omega (arith, below)) (omega arith))

  -- of few columns they are read
  few-columns : (m : RowMajorMatrix F) → width_of m < lift_width → HasReadRows m
  few-columns m few =
      let extended = extended_rows k blowup (log_of (height_of m)) (width_of m) (rows m) in
      ap (λ b. if b then extended else rows m) (lt-leb lift_width (width_of m) few)

  either-same : {A : Type 0} (b : Bool) (x y : A) → x ≡ y → (if b then x else y) ≡ y
  either-same true x y same = same
  either-same false x y same = refl

  module _ (base : FieldLaws k.field) {bits : ℕ} (gens : AreGenerators k.field bits k.gen) where
    -- of low degree the first rows extend to all
    pub low-degree : (m : RowMajorMatrix F) → IsOfLowDegree k blowup m →
        blowup < log_of (height_of m) → log_of (height_of m) < bits → HasReadRows m
    low-degree m low below fits =
        let h = log_of (height_of m) in
        let width = width_of m in
        let first = take (2 ^ (h - blowup)) (rows m) in
        let coeffs = cut k.field width low.coeffs in
        let told : HasValues k.field k.gen (h - blowup) (k.gen (h + 1)) width coeffs first =
        cut-told k.field k.gen width (h - blowup) (k.gen (h + 1)) low.coeffs first low.count
        (sym (first-values m low below)) in
        let same : extended_rows k blowup h width (rows m) ≡ rows m =
        map-agree (extended_row k blowup h width first) (values_at k.field low.coeffs width)
        (points_of_height k.field k.gen h)
        (λ i p lt. let q = slice_index_or (points_of_height k.field k.gen h) i p in
        extended-values k base gens blowup h below fits width coeffs first told q
        ∙ cut-values k.field width low.coeffs q)
        ∙ low.values in
        either-same (nat_le lift_width width) (extended_rows k blowup h width (rows m)) (rows m)
        same

    one-read : (m : RowMajorMatrix F) → IsReadAsIs k blowup m → blowup < log_of (height_of m) →
        log_of (height_of m) < bits → HasReadRows m
    one-read m is below fits =
        ⊎_elim (λ few. few-columns m few) (λ low. low-degree m low below fits) is

-- so are those of matrices of low degree
pub low-read : {D F E M : Type 0} (k : Fields F E) (p : FriParameters M)
    (kept : D → List (RowMajorMatrix F)) (requests : List (OpeningRequest D E)) →
    AreOfLowDegree kept k p requests → AreReadAsIs kept k p requests
low-read k p kept requests low = λ i r lt j m inside. inr (low i r lt j m inside)

-- so of all matrices that are requested
pub all-read : {D F E M : Type 0} (k : Fields F E) (base : FieldLaws k.field) {bits : ℕ}
    (gens : AreGenerators k.field bits k.gen) (p : FriParameters M)
    (kept : D → List (RowMajorMatrix F))
    (requests : List (OpeningRequest D E)) → All (IsFit kept k p.log_blowup bits) requests →
    AreReadAsIs kept k p requests →
    AllByRecursion (λ r. All (HasReadRows k p.log_blowup) (kept r.prover_data.now)) requests
all-read {D = D} {E = E} k base {bits} gens p kept requests fit read =
    recursion_from_All
    (λ (r : OpeningRequest D E). All (HasReadRows k p.log_blowup) (kept r.prover_data.now))
    requests
    (λ i r lt j m inside.
    let own = kept (slice_index_or requests i r).prover_data.now in
    let above = fit-known kept k p.log_blowup bits (λ x. p.log_blowup < log_of (height_of x))
    (λ x points can. can.blowup) requests fit i r lt j m inside in
    let within = fit-known kept k p.log_blowup bits (λ x. log_of (height_of x) < bits)
    (λ x points can. can.in_group) requests fit i r lt j m inside in
    one-read k p.log_blowup base gens (slice_index_or own j m) (read i r lt j m inside) above
    within)
