-- One layer more of a group of rows, and the numbers of a pass.
use Rattle.std.specs.Prelude.{◌≡◌, ℕ, ◌+◌, ◌-◌, ◌*◌, ◌%◌, ◌^◌, ◌<◌, ◌≤◌, List, [], length, take}
use Rattle.std.specs.Prelude.{drop, slice_index_or, Vec}
use Rattle.std.specs.declared.alloc.Global.{Global}
use Rattle.std.proofs.Common.{suc, sym, ◌∙◌, ap, refl, arith, ⊎_elim}
use Rattle.std.proofs.Math.Nat.{mul-le-mul_left, mul-le-mul_right, mul_assoc, pow-le-pow_right}
use Rattle.std.proofs.lemmas.Nat.{one_shl, pow_pos}
use Rattle.std.proofs.lemmas.Bool.{cases_lt}
use Rattle.std.proofs.lemmas.List.{get_or-map}
use Rattle.circle_domain.specs.Layers.{layer}
use Rattle.circle_cfft.specs.Groups.{in_order, block_factors, HasFactors, lane_column, ChangesRows}
use Rattle.circle_cfft.specs.Passes.{factors_at}
use Rattle.circle_cfft.proofs.GroupLayers.{pairs-of-parts, lanes-of-parts, length-block_factors}

-- a number whose power is below 2^64
pub small-exponent : (n : ℕ) → 2 ^ n < 2 ^ 64 → n < 64
small-exponent n small =
    let two : 0 < 2 = omega arith in
    ⊎_elim (λ (lt : n < 64). lt) (λ (le : 64 ≤ n). let large : 2 ^ 64 ≤ 2 ^ n =
    pow-le-pow_right {n = 2} two le in absurd (omega (arith, large, small))) (cases_lt n 64)

-- lanes that have entries and fit are so few
pub few-lanes : (n stride count : ℕ) → count ≡ 2 ^ n * stride → 1 ≤ stride → 2 ^ n ≤ count
few-lanes n stride count e wide =
    let all : 2 ^ n * 1 ≤ 2 ^ n * stride = mul-le-mul_left (2 ^ n) wide in
    omega (arith, all, e)

-- and such a lane is no longer than all
pub lane-within : (n stride count : ℕ) → count ≡ 2 ^ n * stride → stride ≤ count
lane-within n stride count e =
    let one : 1 * stride ≤ 2 ^ n * stride = let some : 1 ≤ 2 ^ n = pow_pos n in
    mul-le-mul_right stride some in
    omega (arith, one, e)

-- lanes that have entries have rows
pub rows-some : (rows width : ℕ) → 1 ≤ rows * width → 1 ≤ rows
rows-some rows width some =
    ⊎_elim
    (λ (lt : rows < 1).
    let none : rows ≡ 0 = omega (arith, lt) in
    let nil : rows * width ≡ 0 = ap (λ m. m * width) none ∙ omega arith in
    absurd (omega (arith, nil, some)))
    (λ (le : 1 ≤ rows). le) (cases_lt rows 1)

-- what is read of one layer for a block: half as many lanes as its parts have, and the factors of
-- the parts
pub record BlockLayer {F : Type 0} (n index l half : ℕ) (fs : ℕ → List F) (ts : List F) : Type 0
  where
    pub below : l < n
    pub has : HasFactors n index fs
    pub half_is : half ≡ 2 ^ l
    pub factors_are : ts ≡ block_factors n index fs l

-- the numbers as they are computed, and the factors as they are read
pub block-layer : {F : Type 0} (twiddles : List (Vec F Global)) (stride count index l : ℕ)
    (v : Vec F Global) (xs : List F) → count ≡ 2 ^ length twiddles * stride → 1 ≤ stride →
    count < 2 ^ 64 →
    l < length twiddles → HasFactors (length twiddles) index (factors_at twiddles) →
    v ≡ slice_index_or twiddles l v → xs ≡ v.items →
    BlockLayer (length twiddles) index l (1 * 2 ^ l % 18446744073709551616) (factors_at twiddles)
    (take ((index + 1) * (1 * 2 ^ (length twiddles - 1 - l) % 18446744073709551616) - index *
    (1 * 2 ^ (length twiddles - 1 - l) % 18446744073709551616))
    (drop (index * (1 * 2 ^ (length twiddles - 1 - l) % 18446744073709551616)) xs))
block-layer twiddles stride count index l v xs long wide small below has read whole =
    let n = length twiddles in
    let few : 2 ^ n ≤ count = few-lanes n stride count long wide in
    let fits : 2 ^ n < 2 ^ 64 = omega (arith, few, small) in
    let exponent : n < 64 = small-exponent n fits in
    let p = 1 * 2 ^ (n - 1 - l) % 18446744073709551616 in
    let is_parts : p ≡ 2 ^ (n - 1 - l) = one_shl (n - 1 - l) 64 (omega (arith, exponent)) in
    let one : (index + 1) * p - index * p ≡ p = omega arith in
    let items : xs ≡ factors_at twiddles l = whole ∙ ap (λ w. w.items) read
    ∙ sym (get_or-map (λ w. w.items) twiddles l v [] below) in
    record {
      below = below;
      has = has;
      half_is = one_shl l 64 (omega (arith, below, exponent));
      factors_are = ap (λ m. take m (drop (index * p) xs)) one
          ∙ ap (λ m. take m (drop (index * m) xs)) is_parts
          ∙ ap (λ ys. take (2 ^ (n - 1 - l)) (drop (index * 2 ^ (n - 1 - l)) ys)) items;
    }

-- its factors end where they are read to
pub factors-end : {F : Type 0} (twiddles : List (Vec F Global)) (stride count index l : ℕ)
    (v : Vec F Global) (xs : List F) → count ≡ 2 ^ length twiddles * stride → 1 ≤ stride →
    count < 2 ^ 64 →
    l < length twiddles → HasFactors (length twiddles) index (factors_at twiddles) →
    v ≡ slice_index_or twiddles l v → xs ≡ v.items →
    (index + 1) * (1 * 2 ^ (length twiddles - 1 - l) % 18446744073709551616) ≤ length xs
factors-end twiddles stride count index l v xs long wide small below has read whole =
    let n = length twiddles in
    let few : 2 ^ n ≤ count = few-lanes n stride count long wide in
    let fits : 2 ^ n < 2 ^ 64 = omega (arith, few, small) in
    let exponent : n < 64 = small-exponent n fits in
    let is_parts = one_shl (n - 1 - l) 64 (omega (arith, exponent)) in
    let items : xs ≡ factors_at twiddles l = whole ∙ ap (λ w. w.items) read
    ∙ sym (get_or-map (λ w. w.items) twiddles l v [] below) in
    omega (arith, ap (λ m. (index + 1) * m) is_parts, has l below, ap length items)

-- a block's number is below the number of factors of any layer
pub factors-long : {F : Type 0} (twiddles : List (Vec F Global)) (l index : ℕ) (v : Vec F Global)
    (xs : List F) → l < length twiddles → HasFactors (length twiddles) index (factors_at twiddles) →
    v ≡ slice_index_or twiddles l v → xs ≡ v.items → index + 1 ≤ length xs
factors-long twiddles l index v xs below has read whole =
    let p = 2 ^ (length twiddles - 1 - l) in
    let items : xs ≡ factors_at twiddles l = whole ∙ ap (λ w. w.items) read
    ∙ sym (get_or-map (λ w. w.items) twiddles l v [] below) in
    let some : 1 ≤ p = pow_pos (length twiddles - 1 - l) in
    let more : (index + 1) * 1 ≤ (index + 1) * p = mul-le-mul_left (index + 1) some in
    omega (arith, more, has l below, ap length items)

module _ {F : Type 0} (n index l half : ℕ) (fs : ℕ → List F) (ts : List F)
    (read : BlockLayer n index l half fs ts) where
  layer-parts : length ts ≡ 2 ^ (n - 1 - l)
  layer-parts = ap length read.factors_are ∙ length-block_factors n l read.below index fs read.has

  pub layer-some : 1 ≤ length ts
  layer-some = omega (arith, layer-parts, pow_pos (n - 1 - l))

  -- all lanes of a block are in the parts
  pub layer-lanes : length ts * (half + half) ≡ 2 ^ n
  layer-lanes = ap (λ m. length ts * (m + m)) read.half_is
      ∙ ap (λ m. m * (2 ^ l + 2 ^ l)) layer-parts ∙ lanes-of-parts n l read.below

  pub layer-pairs : length ts * half ≡ 2 ^ (n - 1)
  layer-pairs = ap (λ m. length ts * m) read.half_is ∙ ap (λ m. m * 2 ^ l) layer-parts
      ∙ pairs-of-parts n l read.below

  pub layer-entries : (stride : ℕ) → length ts * ((half + half) * stride) ≡ 2 ^ n * stride
  layer-entries stride = sym (mul_assoc (length ts) (half + half) stride)
      ∙ ap (λ m. m * stride) layer-lanes

module _ {F : Type 0} (d : F) (low high : F → F → F → F) (order : ℕ → ℕ)
    (offset width stride n index : ℕ) (fs : ℕ → List F) (old : List F) where
  pub rows-untouched : ChangesRows d offset width stride (2 ^ n)
      (in_order low high order 1 (block_factors n index fs) 0) old old
  rows-untouched = record { inside = λ j from to. refl; beside = λ j inside beside. refl }

  -- one layer more
  pub rows-layer : (done l h : ℕ) (ts now new : List F) → l ≡ order done →
      BlockLayer n index l h fs ts →
      ChangesRows d offset width stride (2 ^ n)
      (in_order low high order 1 (block_factors n index fs) done) old now →
      ChangesRows d offset width stride (length ts * (h + h)) (layer low high h ts) now new →
      ChangesRows d offset width stride (2 ^ n)
      (in_order low high order 1 (block_factors n index fs) (done + 1)) old new
  rows-layer done l h ts now new is_layer read so_far change =
      let bf = block_factors n index fs in
      let tall = layer-lanes n index l h fs ts read in
      let half : h ≡ 2 ^ order done * 1 = read.half_is ∙ ap (λ m. 2 ^ m) is_layer ∙ omega arith in
      let factors : ts ≡ bf (order done) = read.factors_are ∙ ap bf is_layer in
      let next : suc done ≡ done + 1 = omega arith in
      record {
        inside = λ j from to.
            let c = lane_column d stride (2 ^ n) j old in
            let so = in_order low high order 1 bf done c in
            ap (λ m. lane_column d stride m j new) (sym tall) ∙ change.inside j from to
            ∙ ap (λ m. layer low high h ts (lane_column d stride m j now)) tall
            ∙ ap (layer low high h ts) (so_far.inside j from to)
            ∙ ap (λ m. layer low high m ts so) half
            ∙ ap (λ us. layer low high (2 ^ order done * 1) us so) factors
            ∙ ap (λ m. in_order low high order 1 bf m c) next;
        beside = λ j inside beside.
            ap (λ m. lane_column d stride m j new) (sym tall) ∙ change.beside j inside beside
            ∙ ap (λ m. lane_column d stride m j now) tall ∙ so_far.beside j inside beside;
      }
