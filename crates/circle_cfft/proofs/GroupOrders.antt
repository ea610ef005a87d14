-- The layers of passes, one pass after another.
use Rattle.std.specs.Prelude.{◌≡◌, ℕ, ◌+◌, ◌-◌, ◌*◌, ◌%◌, ◌^◌, ◌<◌, ◌≤◌, List, [], length, map}
use Rattle.std.specs.Prelude.{take, drop, slice_index_or, Vec}
use Rattle.std.specs.declared.alloc.Global.{Global}
use Rattle.std.proofs.Common.{zero, suc, sym, ◌∙◌, ap, refl, arith, ⊎_elim, length-drop}
use Rattle.std.proofs.Math.Nat.{mul-le-mul_right, mul-le-mul_left, mul_assoc, mul_comm}
use Rattle.std.proofs.lemmas.Nat.{one_shl, pow-add}
use Rattle.std.proofs.lemmas.Bool.{cases_lt}
use Rattle.std.proofs.lemmas.List.{take-map, drop-map, get_or-take, get_or-drop, length-take-le}
use Rattle.circle_domain.specs.Layers.{layer}
use Rattle.circle_cfft.specs.Groups.{in_order}
use Rattle.circle_cfft.specs.Passes.{factors_at, AreLayersOf, descending, ascending}
use Rattle.circle_cfft.proofs.GroupLayers.{in_order-same}
use Rattle.circle_cfft.proofs.GroupSteps.{small-exponent}

-- half a block of layer m + k is one of layer k with lanes of 2^m rows
lanes-of-rows : (m k width : ℕ) → 2 ^ (m + k) * width ≡ 2 ^ k * (2 ^ m * width)
lanes-of-rows m k width = ap (λ a. a * width) (pow-add 2 m k ∙ mul_comm (2 ^ m) (2 ^ k))
    ∙ mul_assoc (2 ^ k) (2 ^ m) width

module _ {F : Type 0} (low high : F → F → F → F) (width : ℕ) (fs : ℕ → List F) where
  -- the largest blocks first
  descending-from : (n k m : ℕ) (xs : List F) → m + k ≡ n →
      descending low high width fs m (in_order low high (λ s. n - 1 - s) width fs k xs)
      ≡ descending low high width fs n xs
  descending-from n zero m xs e = let same : m ≡ n = omega arith in
      ap (λ a. descending low high width fs a xs) same
  descending-from n (suc k) m xs e =
      let here : n - 1 - k ≡ m = omega (arith, e) in
      ap
      (λ a. descending low high width fs m
      (layer low high (2 ^ a * width) (fs a)
      (in_order low high (λ s. n - 1 - s) width fs k xs))) here
      ∙ descending-from n k (suc m) xs (omega (arith, e))

  pub in_order-descending : (n : ℕ) (xs : List F) → in_order low high (λ s. n - 1 - s) width fs n xs
      ≡ descending low high width fs n xs
  in_order-descending n xs = descending-from n n 0 xs (omega arith)

  -- the smallest blocks first
  pub in_order-ascending : (n : ℕ) (xs : List F) → in_order low high (λ s. s) width fs n xs
      ≡ ascending low high width fs n xs
  in_order-ascending zero xs = refl
  in_order-ascending (suc n) xs =
      ap (layer low high (2 ^ n * width) (fs n)) (in_order-ascending n xs)

  -- the k layers from m on, and then those below them
  pub descending-more : (m k : ℕ) (xs : List F) →
      descending low high width fs m (descending low high (2 ^ m * width) (λ i. fs (m + i)) k xs)
      ≡ descending low high width fs (m + k) xs
  descending-more m zero xs = let e : m ≡ m + 0 = omega arith in
      ap (λ a. descending low high width fs a xs) e
  descending-more m (suc k) xs =
      let e : suc (m + k) ≡ m + suc k = omega arith in
      descending-more m k (layer low high (2 ^ k * (2 ^ m * width)) (fs (m + k)) xs)
      ∙ ap (λ h. descending low high width fs (m + k) (layer low high h (fs (m + k)) xs))
      (sym (lanes-of-rows m k width))
      ∙ ap (λ a. descending low high width fs a xs) e

  -- the layers below m, and then the k from there on
  pub ascending-more : (m k : ℕ) (xs : List F) →
      ascending low high (2 ^ m * width) (λ i. fs (m + i)) k (ascending low high width fs m xs)
      ≡ ascending low high width fs (m + k) xs
  ascending-more m zero xs = let e : m ≡ m + 0 = omega arith in
      ap (λ a. ascending low high width fs a xs) e
  ascending-more m (suc k) xs =
      let e : suc (m + k) ≡ m + suc k = omega arith in
      ap (layer low high (2 ^ k * (2 ^ m * width)) (fs (m + k))) (ascending-more m k xs)
      ∙ ap (λ h. layer low high h (fs (m + k)) (ascending low high width fs (m + k) xs))
      (sym (lanes-of-rows m k width))
      ∙ ap (λ a. ascending low high width fs a xs) e

-- k of the elements of a list from m on
pub length-part : {X : Type 0} (xs : List X) (m k : ℕ) → m + k ≤ length xs →
    length (take k (drop m xs)) ≡ k
length-part xs m k within = length-take-le k (drop m xs) (omega (arith, within, length-drop m xs))

-- the factors of the k layers from m on
pub factors-part : {F : Type 0} (twiddles : List (Vec F Global)) (m k l : ℕ) → l < k →
    factors_at (take k (drop m twiddles)) l ≡ factors_at twiddles (m + l)
factors-part twiddles m k l below =
    let all = map (λ v. v.items) twiddles in
    ap (λ xs. slice_index_or xs l []) (sym (take-map (λ v. v.items) k (drop m twiddles))
    ∙ ap (take k) (sym (drop-map (λ v. v.items) m twiddles)))
    ∙ get_or-take k (drop m all) l [] below ∙ get_or-drop m all l []

-- what 1 << m is
abbrev rows : ℕ → ℕ
rows m = 1 * 2 ^ m % 18446744073709551616

-- entries with rows, and layers whose blocks make them up
pub record Layered {F : Type 0} (twiddles : List (Vec F Global)) (width count : ℕ) : Type 0 where
  pub wide : 1 ≤ width
  pub some : 1 ≤ count
  pub are : AreLayersOf width count twiddles

module _ {F : Type 0} {twiddles : List (Vec F Global)} {width count : ℕ}
    (all : Layered twiddles width count) where
  -- rows that are combined are no further apart than all entries are
  layer-within : (m : ℕ) → m < length twiddles → 2 ^ m ≤ count
  layer-within m below =
      let ts = factors_at twiddles m in
      let part = 2 ^ m * width + 2 ^ m * width in
      let one : 1 ≤ length ts =
      ⊎_elim
      (λ (lt : length ts < 1).
      let none : length ts ≡ 0 = omega (arith, lt) in
      let nil : length ts * part ≡ 0 = ap (λ a. a * part) none ∙ omega arith in
      absurd (omega (arith, nil, all.are m below, all.some)))
      (λ (le : 1 ≤ length ts). le) (cases_lt (length ts) 1) in
      let parts : 1 * part ≤ length ts * part = mul-le-mul_right part one in
      let row : 2 ^ m * 1 ≤ 2 ^ m * width = mul-le-mul_left (2 ^ m) all.wide in
      omega (arith, parts, row, all.are m below)

  pub few-layers : (m : ℕ) → m < length twiddles → count < 2 ^ 64 → m < 64
  few-layers m below small = let fits : 2 ^ m < 2 ^ 64 =
      omega (arith, layer-within m below, small) in small-exponent m fits

  -- with any layer, the entries are two halves
  pub entries-halves : 1 ≤ length twiddles →
      count ≡ (length (factors_at twiddles 0) + length (factors_at twiddles 0)) * width
  entries-halves first =
      let h = length (factors_at twiddles 0) in
      let turn : h * (1 * width + 1 * width) ≡ (h + h) * width = omega arith in
      sym (all.are 0 first) ∙ turn

  pub half-within : 1 ≤ length twiddles → length (factors_at twiddles 0) ≤ count
  half-within first =
      let h = length (factors_at twiddles 0) in
      let le : (h + h) * 1 ≤ (h + h) * width = mul-le-mul_left (h + h) all.wide in
      omega (arith, le, entries-halves first)

  -- the k layers from m on, with lanes of 2^m rows
  module _ (m k : ℕ) (some_layer : 1 ≤ k) (within : m + k ≤ length twiddles)
      (small : count < 2 ^ 64) where
    rows-is : rows m ≡ 2 ^ m
    rows-is = one_shl m 64 (few-layers m (omega (arith, within, some_layer)) small)

    pub layers-part : (l : ℕ) → l < length (take k (drop m twiddles)) →
        length (factors_at (take k (drop m twiddles)) l) *
        (2 ^ l * (rows m * width) + 2 ^ l * (rows m * width)) ≡ count
    layers-part l inside =
        let below : l < k = omega (arith, inside, length-part twiddles m k within) in
        let half : 2 ^ l * (rows m * width) ≡ 2 ^ (m + l) * width =
        ap (λ a. 2 ^ l * (a * width)) rows-is ∙ sym (lanes-of-rows m l width) in
        ap (λ a. length (factors_at (take k (drop m twiddles)) l) * (a + a)) half
        ∙ ap (λ ts. length ts * (2 ^ (m + l) * width + 2 ^ (m + l) * width))
        (factors-part twiddles m k l below) ∙ all.are (m + l) (omega (arith, within, below))

    -- their pass
    pass-part : (low high : F → F → F → F) (order : ℕ → ℕ → ℕ) (xs : List F) →
        ((s : ℕ) → s < k → order k s < k) →
        in_order low high (order (length (take k (drop m twiddles)))) (rows m * width)
        (factors_at (take k (drop m twiddles))) (length (take k (drop m twiddles))) xs
        ≡ in_order low high (order k) (2 ^ m * width) (λ i. factors_at twiddles (m + i)) k xs
    pass-part low high order xs orders =
        ap
        (λ n. in_order low high (order n) (rows m * width)
        (factors_at (take k (drop m twiddles))) n xs) (length-part twiddles m k within)
        ∙ ap (λ a. in_order low high (order k) (a * width) (factors_at (take k (drop m twiddles))) k
        xs) rows-is
        ∙ in_order-same low high (order k) (2 ^ m * width) (factors_at (take k (drop m twiddles)))
        (λ i. factors_at twiddles (m + i)) k xs
        (λ s h. factors-part twiddles m k (order k s) (orders s h))

    -- before the layers below them
    pub pass-descending : (low high : F → F → F → F) (xs : List F) →
        descending low high width (factors_at twiddles) m
        (in_order low high (λ s. length (take k (drop m twiddles)) - 1 - s) (rows m * width)
        (factors_at (take k (drop m twiddles))) (length (take k (drop m twiddles))) xs)
        ≡ descending low high width (factors_at twiddles) (m + k) xs
    pass-descending low high xs =
        ap (descending low high width (factors_at twiddles) m)
        (pass-part low high (λ n s. n - 1 - s) xs (λ s h. omega (arith, h))
        ∙ in_order-descending low high (2 ^ m * width) (λ i. factors_at twiddles (m + i)) k xs)
        ∙ descending-more low high width (factors_at twiddles) m k xs

    -- after the layers below them
    pub pass-ascending : (low high : F → F → F → F) (xs : List F) →
        in_order low high (λ s. s) (rows m * width) (factors_at (take k (drop m twiddles)))
        (length (take k (drop m twiddles)))
        (ascending low high width (factors_at twiddles) m xs)
        ≡ ascending low high width (factors_at twiddles) (m + k) xs
    pass-ascending low high xs =
        pass-part low high (λ n s. s) (ascending low high width (factors_at twiddles) m xs)
        (λ s h. h)
        ∙ in_order-ascending low high (2 ^ m * width) (λ i. factors_at twiddles (m + i)) k
        (ascending low high width (factors_at twiddles) m xs)
        ∙ ascending-more low high width (factors_at twiddles) m k xs

    -- room for their butterflies, where h of each layer that is done are counted
    pub pass-room : (before now top done count' : ℕ) → count' ≡ count → length twiddles ≡ top
        + done → k ≤ top → before + length twiddles * count < 2 ^ 128 →
        now + top * length (factors_at twiddles 0) ≡ before
        + length twiddles * length (factors_at twiddles 0) →
        now + length (take k (drop m twiddles)) * count' < 2 ^ 128
    pass-room before now top done count' same layers few room counted =
        let h = length (factors_at twiddles 0) in
        let first : 1 ≤ length twiddles = omega (arith, within, some_layer) in
        let so_far : done * h ≤ done * count = mul-le-mul_left done (half-within first) in
        let next : k * count ≤ top * count = mul-le-mul_right count few in
        let both : (top + done) * h ≡ top * h + done * h = omega arith in
        let whole : (top + done) * count ≡ top * count + done * count = omega arith in
        let taken : length (take k (drop m twiddles)) * count' ≡ k * count =
        ap (λ n. n * count') (length-part twiddles m k within) ∙ ap (λ n. k * n) same in
        omega (
          arith,
          counted,
          so_far,
          next,
          both,
          whole,
          taken,
          room,
          ap (λ n. n * h) layers,
          ap (λ n. n * count) layers,
        )

    -- their butterflies, and those of the layers below
    pub pass-count : (half : ℕ) → (m + k) * half ≡ m * half
        + length (take k (drop m twiddles)) * half
    pass-count half =
        let both : (m + k) * half ≡ m * half + k * half = omega arith in
        both ∙ ap (λ n. m * half + n * half) (sym (length-part twiddles m k within))
