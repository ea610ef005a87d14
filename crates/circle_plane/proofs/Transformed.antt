-- What all layers together make of stored rows: coefficients from values, and values from
-- coefficients.
use Rattle.std.specs.Prelude.{◌≡◌, ℕ, ◌-◌, ◌*◌, ◌^◌, ◌<◌, ◌≤◌, List, length, map, take}
use Rattle.std.specs.Prelude.{slice_index_or, All}
use Rattle.std.proofs.Common.{sym, ◌∙◌, ap, arith}
use Rattle.std.proofs.lemmas.List.{length-map, take-map}
use Rattle.circle_field.specs.Field.{FieldOps, FieldLaws, two, nth_power}
use Rattle.circle_field.specs.Circle.{Coordinates, AreGenerators, IsOnCircle}
use Rattle.circle_commit.specs.Matrix.{rows_from, column}
use Rattle.circle_commit.specs.RowFacts.{length-rows_from}
use Rattle.circle_commit.specs.RowMajorMatrix.{rows, width_of, height_of, values_of, length-rows}
use Rattle.circle_commit.specs.RowMajorMatrix.{length-values}
use Rattle.circle_commit.specs.declared.matrix.RowMajorMatrix.{RowMajorMatrix}
use Rattle.circle_point.specs.Basis.{value}
use Rattle.circle_domain.specs.Domain.{log_size, shift_of}
use Rattle.circle_domain.specs.Layers.{layer_factors, copies}
use Rattle.circle_domain.specs.Order.{cfft_order, IsGenuine}
use Rattle.circle_domain.specs.Ordering.{other_order}
use Rattle.circle_domain.specs.Values.{values_at}
use Rattle.circle_domain.specs.declared.domain.CircleDomain.{CircleDomain}
use Rattle.circle_domain.proofs.Blocks.{cfft_order-prefix}
use Rattle.circle_domain.proofs.Columns.{stored_column, length-stored_column, rows-same_columns}
use Rattle.circle_domain.proofs.CosetOrder.{other_order-points}
use Rattle.circle_domain.proofs.Stored.{rows-values, stored-wide, column-values}
use Rattle.circle_domain.proofs.Told.{values-tell}
use Rattle.circle_cfft.specs.Butterflies.{plus_multiple, minus_multiple, total, scaled_difference}
use Rattle.circle_cfft.specs.Passes.{descending, ascending}
use Rattle.circle_plane.specs.Coefficients.{Interpolates, Evaluates}
use Rattle.circle_plane.proofs.AllLayers.{forward-all, backward-all}
use Rattle.circle_plane.proofs.Passes.{remaining, remaining-none, copies-values, before-passes}
use Rattle.circle_plane.proofs.Passes.{after-passes}

-- the entries of a matrix that was made of given rows
pub record HoldsRows {F : Type 0} (m : RowMajorMatrix F) (count width : ℕ)
    (given : List (List F)) : Type 0 where
  pub long : length (values_of m) ≡ count * width
  pub same : rows_from width count (values_of m) ≡ given

pub holds-rows : {F : Type 0} (m : RowMajorMatrix F) (count width : ℕ) (given : List (List F)) →
    rows m ≡ given → width_of m ≡ width → length given ≡ count → HoldsRows m count width given
holds-rows m count width given content wide counted =
    let tall : height_of m ≡ count = sym (length-rows m) ∙ ap length content ∙ counted in
    record {
      long = length-values m ∙ ap (λ h. h * width_of m) tall ∙ ap (λ w. count * w) wide;
      same = ap (λ w. rows_from w count (values_of m)) (sym wide)
          ∙ ap (λ h. rows_from (width_of m) h (values_of m)) (sym tall) ∙ content;
    }

module _ {F : Type 0} {g : _} {k : FieldOps F} (laws : FieldLaws k) {gen : ℕ → Coordinates F}
    {bits : ℕ} (gens : AreGenerators k bits gen) (d : CircleDomain F g)
    (fits : log_size d ≤ bits) (small : bits ≤ 62) (on_circle : IsOnCircle k (shift_of d))
    (width : ℕ) (wide : 1 ≤ width) where
  -- the layers of the inverse factors, divided by the number of points, give the only coefficients
  pub interpolated : (entries : List F) (given made : List (List F)) (fs : ℕ → List F)
      (factor : F) → IsGenuine k (log_size d) (shift_of d) →
      length entries ≡ 2 ^ log_size d * width →
      rows_from width (2 ^ log_size d) entries ≡ given → All (λ row. length row ≡ width) given →
      ((l : ℕ) → l < log_size d →
      fs l ≡ map k.inv (layer_factors k gen (log_size d) (shift_of d) l)) →
      k.mul factor (nth_power k (two k) (log_size d)) ≡ k.one →
      All (λ row. length row ≡ width) made →
      made
      ≡ rows_from width (2 ^ log_size d)
      (map (λ a. k.mul a factor)
      (ascending (total k) (scaled_difference k) width fs (log_size d) entries)) →
      Interpolates k gen d width given made
  interpolated entries given made fs factor genuine entries_long same given_wide read inverse
      own_wide content =
      let n = log_size d in
      let s = shift_of d in
      let done = ascending (total k) (scaled_difference k) width fs n entries in
      let column_values : (j : ℕ) → j < width →
      map (value k (column k.zero made j)) (cfft_order k gen n s) ≡ column k.zero given j =
      λ j lt. ap (λ all. map (value k (column k.zero all j)) (cfft_order k gen n s)) content
      ∙ after-passes laws gens n s fits on_circle genuine.1 width j done (column k.zero given j)
      factor genuine.0 inverse
      (backward-all laws gens n s fits on_circle genuine.1 width j lt fs n entries
      (column k.zero given j) (omega arith) read entries_long
      (before-passes laws gens n s fits on_circle genuine.1 width j entries
      ∙ ap (λ all. map (k.mul (nth_power k (two k) 0)) (column k.zero all j)) same)) in
      let long : length made ≡ 2 ^ n = ap length content
      ∙ length-rows_from width (2 ^ n) (map (λ a. k.mul a factor) done) in
      let there : map (values_at k made width) (cfft_order k gen n s) ≡ given =
      sym
      (rows-values k width (2 ^ n) wide given made (cfft_order k gen n s) given_wide
      (λ j lt. sym (column_values j lt))) in
      record {
        told = record { height = long; widths = own_wide; values = there };
        natural =
            sym
            (other_order-points laws.ring gens (values_at k made width) n s genuine.0
            (omega (arith, fits, small))) ∙ ap (other_order n) there;
        only = λ others has. rows-same_columns k.zero width made others wide own_wide has.widths
            (λ j lt.
            values-tell laws gens n s fits on_circle genuine.1 (column k.zero made j)
            (column k.zero others j) genuine.0
            (length-map made (λ row. slice_index_or row j k.zero) ∙ long)
            (length-map others (λ row. slice_index_or row j k.zero) ∙ has.height)
            (column_values j lt ∙ sym (ap (λ all. column k.zero all j) has.values)
            ∙ column-values k width (2 ^ n) wide others (cfft_order k gen n s) j lt));
      }

  -- the layers of the factors, over copies of the coefficients, give the values
  pub evaluated : (h : ℕ) (stored done : List F) (made : List (List F)) (fs : ℕ → List F) →
      1 ≤ log_size d → h ≤ log_size d → length stored ≡ 2 ^ h * width →
      length (copies (2 ^ (log_size d - h)) stored) ≡ 2 ^ log_size d * width →
      ((l : ℕ) → l < h → fs l ≡ layer_factors k gen (log_size d) (shift_of d) l) →
      done ≡ descending (plus_multiple k) (minus_multiple k) width fs h
      (copies (2 ^ (log_size d - h)) stored) → length done ≡ 2 ^ log_size d * width →
      made ≡ rows_from width (2 ^ log_size d) done →
      Evaluates k gen d width (rows_from width (2 ^ h) stored) made
  evaluated h stored done made fs positive le stored_long long read done_is done_long content =
      let n = log_size d in
      let s = shift_of d in
      let coeffs = rows_from width (2 ^ h) stored in
      let f = values_at k coeffs width in
      let there : made ≡ map f (cfft_order k gen n s) =
      content
      ∙ rows-values k width (2 ^ n) wide (rows_from width (2 ^ n) done) coeffs
      (cfft_order k gen n s) (stored-wide k width (2 ^ n) wide done done_long)
      (λ j lt. sym
      (remaining-none k gen n s (stored_column k.zero width j (2 ^ n) done)
      (length-stored_column k.zero width j (2 ^ n) done))
      ∙ ap (λ xs. remaining k gen n s 0 (stored_column k.zero width j (2 ^ n) xs)) done_is
      ∙ forward-all k gen n s width j lt fs h (copies (2 ^ (n - h)) stored) le read long
      ∙ copies-values laws gens n s fits on_circle width j h stored positive le stored_long) in
      record {
        cfft = there;
        natural = ap (other_order n) there ∙ other_order-points laws.ring gens f n s positive
            (omega (arith, fits, small));
        prefix = λ m positive' within. ap (take (2 ^ m)) there
            ∙ take-map f (2 ^ m) (cfft_order k gen n s)
            ∙ ap (map f) (cfft_order-prefix k gen m n s positive' within);
      }
