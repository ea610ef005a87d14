-- The values that the first rows of a matrix extend to.
use Rattle.std.specs.Prelude.{◌≡◌, ℕ, ◌+◌, ◌-◌, ◌^◌, ◌<◌, ◌≤◌, Bool, true, false, if◌then◌else◌}
use Rattle.std.specs.Prelude.{List, [], length, map, take, All, nat_le, slice_index_or}
use Rattle.std.proofs.Common.{sym, ◌∙◌, ap, arith}
use Rattle.std.proofs.lemmas.Bool.{le-leb}
use Rattle.std.proofs.lemmas.List.{length-map, map-id, get_or-map, ext_get_or}
use Rattle.std.proofs.lemmas.List.Elements.{All-map}
use Rattle.std.proofs.lemmas.List.FromFn.{fill_by_all, get_or-map-range_with_len}
use Rattle.std.proofs.lemmas.List.FromFn.{length-map-range_with_len}
use Rattle.circle_field.specs.Field.{FieldLaws, IsEmbedding}
use Rattle.circle_field.specs.Extension.{AreCoefficients}
use Rattle.circle_field.specs.Circle.{Coordinates, AreGenerators, origin}
use Rattle.circle_commit.specs.Matrix.{column}
use Rattle.circle_commit.specs.DotProduct.{dot}
use Rattle.circle_commit.proofs.ColumnSums.{map-agree}
use Rattle.circle_point.specs.Basis.{value}
use Rattle.circle_domain.specs.Lagrange.{lagrange_at}
use Rattle.circle_domain.specs.Order.{cfft_order}
use Rattle.circle_domain.specs.Values.{HasValues, values_at}
use Rattle.circle_domain.proofs.Blocks.{points-cfft_order}
use Rattle.circle_domain.proofs.Columns.{column-made}
use Rattle.circle_domain.proofs.CosetOrder.{length-cfft_order}
use Rattle.circle_domain.proofs.LagrangePolynomials.{lagrange}
use Rattle.circle_domain.proofs.Twiddles.{map-map}
use Rattle.circle_relation.specs.Accepts.{Fields}
use Rattle.circle_codewords.specs.Lifts.{lift_width, combined, first_weights, extended_word}
use Rattle.circle_codewords.specs.Lifts.{extended_row, extended_rows, read_rows}
use Rattle.circle_codewords.specs.Ratios.{points_of_height}
use Rattle.circle_codewords.proofs.Combinations.{combined-columns, coefficients-sum}
use Rattle.circle_codewords.proofs.Prefix.{first-genuine}

module _ {F E : Type 0} (k : Fields F E) (laws : FieldLaws k.field) {bits : ℕ}
    (gens : AreGenerators k.field bits k.gen) (blowup h : ℕ) (less : blowup < h) (below : h < bits)
  where
    -- a column's values at the first points, each times its Lagrange polynomial at p, add up to its
    -- value at p
    first-sum : (c : List F) (p : Coordinates F) → length c ≡ 2 ^ (h - blowup) →
        let first = cfft_order k.field k.gen (h - blowup) (k.gen (h + 1)) in
        dot k.field (map (lagrange_at k.field (h - blowup) p) first) (map (value k.field c) first)
        ≡ value k.field c p
    first-sum c p long =
        let n = h - blowup in
        let s = k.gen (h + 1) in
        let some : 1 ≤ n = omega (arith, less) in
        let within : n ≤ h = omega arith in
        let genuine = first-genuine laws gens n h some within below in
        ap
        (λ first. dot k.field (map (lagrange_at k.field n p) first)
        (map (value k.field c) first))
        (sym (points-cfft_order k.field k.gen n s some))
        ∙ lagrange laws gens n s p c long (omega (arith, within, below))
        (gens.on_circle (h + 1) (omega (arith, below))) genuine.1

    -- the first rows extend to the values of the polynomials that have these rows
    pub extended-values : (width : ℕ) (coeffs first : List (List F)) →
        HasValues k.field k.gen (h - blowup) (k.gen (h + 1)) width coeffs first →
        (p : Coordinates F) → extended_row k blowup h width first p
        ≡ values_at k.field coeffs width p
    extended-values width coeffs first told p =
        let zero = k.field.zero in
        let there = cfft_order k.field k.gen (h - blowup) (k.gen (h + 1)) in
        let weights = first_weights k blowup h p in
        let at = λ (j : ℕ) (q : Coordinates F). value k.field (column zero coeffs j) q in
        sym
        (fill_by_all (λ j. dot k.field weights (map (λ a. a) (column zero first j)))
        (values_at k.field coeffs width p) width zero
        (length-map-range_with_len (λ j. at j p) 0 width)
        (λ j lt.
        get_or-map-range_with_len (λ j. at j p) 0 width j j zero lt (omega arith)
        ∙ sym (ap (dot k.field weights) (map-id (column zero first j))
        ∙ ap (λ rows. dot k.field weights (column zero rows j)) (sym told.values)
        ∙ ap (dot k.field weights) (column-made zero width j at there lt)
        ∙ first-sum (column zero coeffs j) p (length-map coeffs _ ∙ told.height))))

    -- a codeword whose coefficients are the values of polynomials with the first entries'
    -- coefficients is what these extend to
    pub extended-entries : {degree : ℕ} {coefficients : E → List F} (above : FieldLaws k.extension)
        (are : AreCoefficients k.field k.extension k.embed degree coefficients)
        (first word : List E) (coeffs : List (List F)) →
        HasValues k.field k.gen (h - blowup) (k.gen (h + 1)) degree coeffs
        (map coefficients first) →
        map coefficients word
        ≡ map (values_at k.field coeffs degree) (points_of_height k.field k.gen h) →
        word ≡ extended_word k blowup h first
    extended-entries {degree} {coefficients} above are first word coeffs told is =
        let points = points_of_height k.field k.gen h in
        let at =
        λ (p : Coordinates F). dot k.extension first (map k.embed (first_weights k blowup h p)) in
        let same : map coefficients word ≡ map (λ p. coefficients (at p)) points =
        is ∙ map-agree (values_at k.field coeffs degree) (λ p. coefficients (at p)) points (λ i d _.
        let p = slice_index_or points i d in
        sym (coefficients-sum laws.ring above.ring are first (first_weights k blowup h p)
        ∙ extended-values degree coeffs (map coefficients first) told p)) in
        let long : length word ≡ length points = sym (length-map word coefficients) ∙ ap length same
        ∙ length-map points (λ p. coefficients (at p)) in
        let zero = k.extension.zero in
        let o = origin k.field in
        ext_get_or zero word (map at points) (long ∙ sym (length-map points at)) (λ i lt.
        let inside : i < length points = omega (arith, lt, long) in
        are.determined (slice_index_or word i zero) (slice_index_or (map at points) i zero)
        (sym (get_or-map coefficients word i zero [] lt) ∙ ap (λ cs. slice_index_or cs i []) same
        ∙ get_or-map (λ p. coefficients (at p)) points i o [] inside
        ∙ ap coefficients (sym (get_or-map at points i o zero inside))))

module _ {F E : Type 0} (k : Fields F E) (blowup h width : ℕ) where
  -- what a combination of rows extends to is the combination of what the rows extend to
  pub extended-combined : FieldLaws k.extension → IsEmbedding k.field k.extension k.embed →
      (powers : List E) (first : List (List F)) → All (λ row. length row ≡ width) first →
      extended_word k blowup h (combined k powers first)
      ≡ combined k powers
      (map (extended_row k blowup h width first) (points_of_height k.field k.gen h))
  extended-combined above embedding powers first wide =
      let points = points_of_height k.field k.gen h in
      let combination = λ (row : List F). dot k.extension powers (map k.embed row) in
      map-agree
      (λ p. dot k.extension (combined k powers first)
      (map k.embed (first_weights k blowup h p)))
      (λ p. combination (extended_row k blowup h width first p)) points
      (λ i d _. sym
      (combined-columns above.ring embedding powers width first
      (first_weights k blowup h (slice_index_or points i d)) wide))
      ∙ sym (map-map combination (extended_row k blowup h width first) points)

  -- what codewords read of a matrix of many columns
  pub read-wide : (rows : List (List F)) → lift_width ≤ width → read_rows k blowup h width rows
      ≡ extended_rows k blowup h width rows
  read-wide rows least = ap (λ b. if b then extended_rows k blowup h width rows else rows)
      (le-leb lift_width width least)

either : {X : Type 0} (P : X → Type 0) (b : Bool) (x y : X) → P x → P y → P (if b then x else y)
either P true x y first second = first
either P false x y first second = second

-- they are as many rows, and as wide
module _ {F E : Type 0} (k : Fields F E) (laws : FieldLaws k.field) {bits : ℕ}
    (gens : AreGenerators k.field bits k.gen) (blowup h width : ℕ) (positive : 1 ≤ h)
    (rows : List (List F)) where
  pub length-read : length rows ≡ 2 ^ h → length (read_rows k blowup h width rows) ≡ 2 ^ h
  length-read long =
      either (λ (all : List (List F)). length all ≡ 2 ^ h) (nat_le lift_width width)
      (extended_rows k blowup h width rows) rows
      (length-map (points_of_height k.field k.gen h) _
      ∙ length-cfft_order laws.ring gens h (k.gen (h + 1)) positive) long

  pub read-widths : All (λ row. length row ≡ width) rows →
      All (λ row. length row ≡ width) (read_rows k blowup h width rows)
  read-widths wide =
      either (All (λ (row : List F). length row ≡ width)) (nat_le lift_width width)
      (extended_rows k blowup h width rows) rows
      (All-map (λ (row : List F). length row ≡ width)
      (extended_row k blowup h width (take (2 ^ (h - blowup)) rows))
      (points_of_height k.field k.gen h) (λ i p _.
      length-map-range_with_len _ 0 width)) wide
