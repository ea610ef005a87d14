-- A block whose groups of rows are changed one after another.
use Rattle.std.specs.Prelude.{◌≡◌, ◌⊎◌, ℕ, ◌+◌, ◌*◌, ◌^◌, ◌<◌, ◌≤◌, List, [], ◌++◌, length, Option}
use Rattle.std.specs.Prelude.{Some, None}
use Rattle.std.proofs.Common.{sym, ◌∙◌, ap, refl, arith, inl, inr, ⊎_elim}
use Rattle.std.proofs.lemmas.Bool.{cases_lt}
use Rattle.std.proofs.lemmas.List.{length-map, map-append}
use Rattle.circle_field.specs.Field.{FieldOps, RingLaws}
use Rattle.circle_field.specs.RingFacts.{zero_mul}
use Rattle.circle_domain.proofs.Columns.{stored_column-map}
use Rattle.circle_cfft.specs.Groups.{in_order, scaled, block_factors, HasFactors, lane_column}
use Rattle.circle_cfft.specs.Groups.{ChangesRows}
use Rattle.circle_cfft.proofs.Lanes.{same-columns}
use Rattle.circle_cfft.proofs.GroupLayers.{FactorsFit, length-in_order, in_order-column}
use Rattle.circle_cfft.proofs.GroupLayers.{lane-entries, lanes-of-parts, length-block_factors}

module _ {F : Type 0} (k : FieldOps F) where
  pub length-scaled : (scale : Option F) (xs : List F) → length (scaled k scale xs) ≡ length xs
  length-scaled None xs = refl
  length-scaled (Some factor) xs = length-map xs (λ a. k.mul a factor)

  pub scaled-append : (scale : Option F) (xs ys : List F) → scaled k scale (xs ++ ys)
      ≡ scaled k scale xs ++ scaled k scale ys
  scaled-append None xs ys = refl
  scaled-append (Some factor) xs ys = map-append (λ a. k.mul a factor) xs ys

  pub scaled-nil : (scale : Option F) → scaled k scale [] ≡ []
  scaled-nil None = refl
  scaled-nil (Some factor) = refl

  pub scaled-column : RingLaws k → (stride height j : ℕ) (scale : Option F) (xs : List F) →
      lane_column k.zero stride height j (scaled k scale xs)
      ≡ scaled k scale (lane_column k.zero stride height j xs)
  scaled-column laws stride height j None xs = refl
  scaled-column laws stride height j (Some factor) xs =
      stored_column-map k.zero stride j (λ a. k.mul a factor) height xs (zero_mul laws factor)

module _ {F : Type 0} (d : F) (stride height : ℕ) (f : List F → List F) (old : List F) where
  -- the first columns are made anew, and the others are as they were
  pub record DoneColumns (count : ℕ) (now : List F) : Type 0 where
    pub done : (j : ℕ) → j < count → lane_column d stride height j now
        ≡ f (lane_column d stride height j old)
    pub left : (j : ℕ) → count ≤ j → j < stride → lane_column d stride height j now
        ≡ lane_column d stride height j old

  pub columns-none : (width : ℕ) → DoneColumns (0 * width) old
  columns-none width =
      record { done = λ j below. absurd (omega (arith, below)); left = λ j above inside. refl }

-- the columns of one group more, which is changed twice
pub columns-more : {F : Type 0} (d : F) (stride height height' row width : ℕ) (f f' : List F →
    List F) (old now mid new : List F) → height' ≡ height → row * width + width ≤ stride →
    DoneColumns d stride height (λ c. f' (f c)) old (row * width) now →
    ChangesRows d (row * width) width stride height f now mid →
    ChangesRows d (row * width) width stride height' f' mid new →
    DoneColumns d stride height (λ c. f' (f c)) old ((row + 1) * width) new
columns-more {F = F} d stride height height' row width f f' old now mid new same within
    so_far change change' =
    let next : (row + 1) * width ≡ row * width + width = omega arith in
    let turn : (j : ℕ) (xs : List F) →
    lane_column d stride height j xs ≡ lane_column d stride height' j xs =
    λ j xs. ap (λ m. lane_column d stride m j xs) (sym same) in
    let beside : (j : ℕ) → j < stride → (j < row * width) ⊎ (row * width + width ≤ j) →
    lane_column d stride height j new ≡ lane_column d stride height j now =
    λ j inside apart. turn j new ∙ change'.beside j inside apart ∙ sym (turn j mid)
    ∙ change.beside j inside apart in
    record {
      done = λ j below.
          ⊎_elim
          (λ (lt : j < row * width). beside j (omega (arith, lt, within)) (inl lt)
          ∙ so_far.done j lt)
          (λ (le : row * width ≤ j).
          let to : j < row * width + width = omega (arith, below, next) in
          let inside : j < stride = omega (arith, to, within) in
          turn j new ∙ change'.inside j le to
          ∙ ap f' (sym (turn j mid) ∙ change.inside j le to ∙ ap f (so_far.left j le inside)))
          (cases_lt j (row * width));
      left = λ j above inside. beside j inside (inr (omega (arith, above, next)))
          ∙ so_far.left j (omega (arith, above, next)) inside;
    }

-- all columns: the layers of the block
module _ {F : Type 0} (k : FieldOps F) (laws : RingLaws k) (low high : F → F → F → F)
    (order : ℕ → ℕ) (n stride index : ℕ) (fs : ℕ → List F) (scale : Option F) (old : List F)
    (orders : (s : ℕ) → s < n → order s < n) (has : HasFactors n index fs)
    (long : length old ≡ 2 ^ n * stride) where
  abbrev bf : ℕ → List F
  bf = block_factors n index fs

  part-lanes : (s : ℕ) → s < n → length (bf (order s)) * (2 ^ order s + 2 ^ order s) ≡ 2 ^ n
  part-lanes s h =
      ap (λ m. m * (2 ^ order s + 2 ^ order s))
      (length-block_factors n (order s) (orders s h) index fs has)
      ∙ lanes-of-parts n (order s) (orders s h)

  pub block-fit : FactorsFit low high order stride bf n (length old)
  block-fit s h = lane-entries (length (bf (order s))) (2 ^ order s) stride (2 ^ n) (part-lanes s h)
      ∙ sym long

  pub columns-all : (count : ℕ) (now : List F) → 1 ≤ stride → count ≡ stride →
      length now ≡ length old →
      DoneColumns k.zero stride (2 ^ n) (λ c. scaled k scale (in_order low high order 1 bf n c)) old
      count now → now ≡ scaled k scale (in_order low high order stride bf n old)
  columns-all count now wide all kept so_far =
      let made = in_order low high order stride bf n old in
      let tall : length (scaled k scale made) ≡ 2 ^ n * stride = length-scaled k scale made
      ∙ length-in_order low high order stride bf n old block-fit ∙ long in
      same-columns k.zero stride (2 ^ n) now (scaled k scale made) wide (kept ∙ long) tall
      (λ j inside.
      so_far.done j (omega (arith, inside, all))
      ∙ ap (scaled k scale)
      (sym
      (in_order-column low high order k.zero stride (2 ^ n) j bf n old inside long part-lanes))
      ∙ sym (scaled-column k laws stride (2 ^ n) j scale made))
