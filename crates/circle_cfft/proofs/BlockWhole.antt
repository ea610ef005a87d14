-- The layers of all entries: the upper ones over the whole, the lower ones over one part after
-- another.
use Rattle.std.specs.Prelude.{◌≡◌, ℕ, ◌+◌, ◌-◌, ◌*◌, ◌/◌, ◌^◌, ◌<◌, ◌≤◌, List, [], ◌++◌, length}
use Rattle.std.specs.Prelude.{map, take, drop, slice_index_or, Vec}
use Rattle.std.specs.declared.alloc.Global.{Global}
use Rattle.std.proofs.Common.{zero, suc, sym, ◌∙◌, ap, refl, arith, subst, length-drop, ◌⊎◌, inl}
use Rattle.std.proofs.Common.{inr}
use Rattle.std.proofs.Math.Nat.{mul-div_cancel, mul-le-mul_right}
use Rattle.std.proofs.lemmas.Nat.{pow-add}
use Rattle.std.proofs.lemmas.List.{drop-drop, drop_all, take_all, take-append-drop, length-take-le}
use Rattle.std.proofs.lemmas.List.{take-map, get_or-take, get_or-drop}
use Rattle.circle_domain.specs.Layers.{layer}
use Rattle.circle_domain.proofs.Columns.{drop-map}
use Rattle.circle_cfft.specs.Passes.{descending, ascending, factors_at, AreLayersOf}
use Rattle.circle_cfft.specs.Parts.{part_of, factors_of_part, AreLayersOfPart}
use Rattle.circle_cfft.proofs.BlockSizes.{cancel, positive_factor, half-more, half-positive}
use Rattle.circle_cfft.proofs.BlockLayers.{descending-same, descending-append, descending-above}
use Rattle.circle_cfft.proofs.BlockLayers.{ascending-same, ascending-append, ascending-above}

-- 2^(n - (l + 1)) blocks of layer l make up 2^n rows
pub size-blocks : (n l width : ℕ) → l < n → 2 ^ (n - (l + 1)) * (2 ^ l * width + 2 ^ l * width)
    ≡ 2 ^ n * width
size-blocks n l width h =
    let e : n - (l + 1) + (l + 1) ≡ n = omega arith in
    ap (λ x. 2 ^ (n - (l + 1)) * x) (sym (half-more l width))
    ∙ (let p : 2 ^ (n - (l + 1)) * (2 ^ (l + 1) * width) ≡ 2 ^ (n - (l + 1)) * 2 ^ (l + 1) * width =
    omega arith in p)
    ∙ ap (λ x. x * width) (sym (pow-add 2 (n - (l + 1)) (l + 1)) ∙ ap (λ x. 2 ^ x) e)

pub size-exact : (n l width : ℕ) → 1 ≤ width → l < n →
    2 ^ n * width / (2 ^ l * width + 2 ^ l * width) * (2 ^ l * width + 2 ^ l * width)
    ≡ 2 ^ n * width
size-exact n l width wide h =
    let block = 2 ^ l * width + 2 ^ l * width in
    let positive : 0 < block = omega (arith, half-positive l width wide) in
    ap (λ x. x / block * block) (sym (size-blocks n l width h))
    ∙ ap (λ x. x * block) (mul-div_cancel (2 ^ (n - (l + 1))) {n = block} positive)
    ∙ size-blocks n l width h

pub length-part_of : {F : Type 0} (part n : ℕ) (factors : List F) → part * n + n ≤ length factors →
    length (part_of part n factors) ≡ n
length-part_of part n factors fits =
    length-take-le n (drop (part * n) factors) (omega (arith, fits, length-drop (part * n) factors))

-- a part and those after it
pub part-and-rest : {F : Type 0} (part n : ℕ) (factors : List F) → drop (part * n) factors
    ≡ part_of part n factors ++ drop ((part + 1) * n) factors
part-and-rest part n factors =
    let next : part * n + n ≡ (part + 1) * n = omega arith in
    sym (take-append-drop n (drop (part * n) factors))
    ∙ ap (λ xs. part_of part n factors ++ xs) (drop-drop n (part * n) factors
    ∙ ap (λ m. drop m factors) next)

module _ {F : Type 0} (width : ℕ) (twiddles : List (Vec F Global)) where
  -- the entries of a part, and its blocks of layer l
  abbrev pub size : ℕ
  size = 2 ^ length twiddles * width

  abbrev pub blocks : ℕ → ℕ
  blocks l = size / (2 ^ l * width + 2 ^ l * width)

  -- the factors of the parts from part i on
  abbrev pub factors_from : ℕ → ℕ → List F
  factors_from i l = drop (i * blocks l) (factors_at twiddles l)

  -- the layers of the parts from part i on
  abbrev pub descend_from : (F → F → F → F) → (F → F → F → F) → ℕ → List F → List F
  descend_from low high i xs = descending low high width (factors_from i) (length twiddles) xs

  abbrev pub ascend_from : (F → F → F → F) → (F → F → F → F) → ℕ → List F → List F
  ascend_from low high i xs = ascending low high width (factors_from i) (length twiddles) xs

module _ {F : Type 0} (width count : ℕ) (twiddles : List (Vec F Global)) (wide : 1 ≤ width)
    (layers : AreLayersOf width count twiddles) (some_layer : 0 < length twiddles) where
  pub parts-exact : count / size width twiddles * size width twiddles ≡ count
  parts-exact =
      let m = length twiddles - 1 in
      let next : m + 1 ≡ length twiddles = omega (arith, some_layer) in
      let whole : length (factors_at twiddles m) * size width twiddles ≡ count =
      ap (λ n. length (factors_at twiddles m) * (2 ^ n * width)) (sym next)
      ∙ ap (λ x. length (factors_at twiddles m) * x) (half-more m width)
      ∙ layers m (omega (arith, some_layer)) in
      ap (λ x. x / size width twiddles * size width twiddles) (sym whole)
      ∙ ap (λ x. x * size width twiddles)
      (mul-div_cancel (length (factors_at twiddles m)) {n = size width twiddles}
      (half-positive (length twiddles) width wide)) ∙ whole

  pub size-fits : 1 ≤ count → size width twiddles ≤ count
  size-fits some =
      let least : 1 ≤ count / size width twiddles =
      omega (
        arith,
        positive_factor (count / size width twiddles) (size width twiddles) count
            parts-exact some,
      ) in
      let whole : 1 * size width twiddles ≤ count / size width twiddles * size width twiddles =
      mul-le-mul_right (size width twiddles) least in
      omega (arith, whole, parts-exact)

  pub part-fits : (i : ℕ) → i < count / size width twiddles → i * size width twiddles
      + size width twiddles ≤ count
  part-fits i h =
      let le : i + 1 ≤ count / size width twiddles = omega (arith, h) in
      let whole : (i + 1) * size width twiddles ≤ count / size width twiddles * size width
      twiddles = mul-le-mul_right (size width twiddles) le in
      let next : (i + 1) * size width twiddles ≡ i * size width twiddles + size width twiddles =
      omega arith in
      omega (arith, whole, next, parts-exact)

  factors-count : (l : ℕ) → l < length twiddles → length (factors_at twiddles l)
      ≡ count / size width twiddles * blocks width twiddles l
  factors-count l h =
      let block = 2 ^ l * width + 2 ^ l * width in
      cancel (length (factors_at twiddles l))
      (count / size width twiddles * blocks width twiddles l) block
      (omega (arith, half-positive l width wide))
      (layers l h ∙ sym parts-exact
      ∙ ap (λ x. count / size width twiddles * x)
      (sym (size-exact (length twiddles) l width wide h))
      ∙ (let e : count / size width twiddles * (blocks width twiddles l * block) ≡ count / size
      width twiddles * blocks width twiddles l * block = omega arith in e))

  part-in : (i l : ℕ) → i < count / size width twiddles → l < length twiddles →
      i * blocks width twiddles l + blocks width twiddles l ≤ length (factors_at twiddles l)
  part-in i l lt h =
      let le : i + 1 ≤ count / size width twiddles = omega (arith, lt) in
      let whole : (i + 1) * blocks width twiddles l ≤ count / size width twiddles * blocks width
      twiddles l = mul-le-mul_right (blocks width twiddles l) le in
      let next : (i + 1) * blocks width twiddles l ≡ i * blocks width twiddles l + blocks width
      twiddles l = omega arith in
      omega (arith, whole, next, factors-count l h)

  pub part-layers : (i : ℕ) → i < count / size width twiddles →
      AreLayersOfPart width (size width twiddles) i twiddles
  part-layers i lt l h =
      ap (λ n. n * (2 ^ l * width + 2 ^ l * width))
      (length-part_of i (blocks width twiddles l) (factors_at twiddles l) (part-in i l lt h))
      ∙ size-exact (length twiddles) l width wide h

  module _ (low high : F → F → F → F) where
    pub descend_from-first : (xs : List F) → descend_from width twiddles low high 0 xs
        ≡ descending low high width (factors_at twiddles) (length twiddles) xs
    descend_from-first xs =
        descending-same low high width (factors_from width twiddles 0) (factors_at twiddles)
        (length twiddles) (λ l h. let none : 0 * blocks width twiddles l ≡ 0 = omega arith in
        ap (λ n. drop n (factors_at twiddles l)) none) xs

    pub descend_from-more : (i : ℕ) (zs : List F) → i < count / size width twiddles →
        size width twiddles ≤ length zs →
        descend_from width twiddles low high i zs
        ≡ descending low high width (factors_of_part width (size width twiddles) i twiddles)
        (length twiddles) (take (size width twiddles) zs)
        ++ descend_from width twiddles low high (i + 1) (drop (size width twiddles) zs)
    descend_from-more i zs lt enough =
        descending-same low high width (factors_from width twiddles i)
        (λ l. factors_of_part width (size width twiddles) i twiddles l
        ++ factors_from width twiddles (i + 1) l) (length twiddles)
        (λ l h. part-and-rest i (blocks width twiddles l) (factors_at twiddles l)) zs
        ∙ ap
        (descending low high width
        (λ l. factors_of_part width (size width twiddles) i twiddles l
        ++ factors_from width twiddles (i + 1) l) (length twiddles))
        (sym (take-append-drop (size width twiddles) zs))
        ∙ descending-append low high width (factors_of_part width (size width twiddles) i twiddles)
        (factors_from width twiddles (i + 1)) (length twiddles) (take (size width twiddles) zs)
        (drop (size width twiddles) zs)
        (λ l h. length-take-le (size width twiddles) zs enough ∙ sym (part-layers i lt l h))

    descending-none : (fs : ℕ → List F) (n : ℕ) → ((l : ℕ) → l < n → fs l ≡ []) →
        descending low high width fs n [] ≡ []
    descending-none fs zero none = refl
    descending-none fs (suc n) none =
        ap (λ ts. descending low high width fs n (layer low high (2 ^ n * width) ts []))
        (none n (omega arith)) ∙ descending-none fs n (λ l h. none l (omega (arith, h)))

    pub descend_from-none : (i : ℕ) → i ≡ count / size width twiddles →
        descend_from width twiddles low high i [] ≡ []
    descend_from-none i end =
        descending-none (factors_from width twiddles i) (length twiddles)
        (λ l h. drop_all (i * blocks width twiddles l) (factors_at twiddles l)
        (omega (arith, factors-count l h, ap (λ n. n * blocks width twiddles l) end)))

    -- and the smallest blocks first
    pub ascend_from-first : (xs : List F) → ascend_from width twiddles low high 0 xs
        ≡ ascending low high width (factors_at twiddles) (length twiddles) xs
    ascend_from-first xs =
        ascending-same low high width (factors_from width twiddles 0) (factors_at twiddles)
        (length twiddles) (λ l h. let none : 0 * blocks width twiddles l ≡ 0 = omega arith in
        ap (λ n. drop n (factors_at twiddles l)) none) xs

    pub ascend_from-more : (i : ℕ) (zs : List F) → i < count / size width twiddles →
        size width twiddles ≤ length zs →
        ascend_from width twiddles low high i zs
        ≡ ascending low high width (factors_of_part width (size width twiddles) i twiddles)
        (length twiddles) (take (size width twiddles) zs)
        ++ ascend_from width twiddles low high (i + 1) (drop (size width twiddles) zs)
    ascend_from-more i zs lt enough =
        ascending-same low high width (factors_from width twiddles i)
        (λ l. factors_of_part width (size width twiddles) i twiddles l
        ++ factors_from width twiddles (i + 1) l) (length twiddles)
        (λ l h. part-and-rest i (blocks width twiddles l) (factors_at twiddles l)) zs
        ∙ ap
        (ascending low high width (λ l. factors_of_part width (size width twiddles) i twiddles l
        ++ factors_from width twiddles (i + 1) l) (length twiddles))
        (sym (take-append-drop (size width twiddles) zs))
        ∙ ascending-append low high width (factors_of_part width (size width twiddles) i twiddles)
        (factors_from width twiddles (i + 1)) (length twiddles) (take (size width twiddles) zs)
        (drop (size width twiddles) zs)
        (λ l h. length-take-le (size width twiddles) zs enough ∙ sym (part-layers i lt l h))

    ascending-none : (fs : ℕ → List F) (n : ℕ) → ((l : ℕ) → l < n → fs l ≡ []) →
        ascending low high width fs n [] ≡ []
    ascending-none fs zero none = refl
    ascending-none fs (suc n) none =
        ap (λ ts. layer low high (2 ^ n * width) ts (ascending low high width fs n []))
        (none n (omega arith))

    pub ascend_from-none : (i : ℕ) → i ≡ count / size width twiddles →
        ascend_from width twiddles low high i [] ≡ []
    ascend_from-none i end =
        ascending-none (factors_from width twiddles i) (length twiddles)
        (λ l h. drop_all (i * blocks width twiddles l) (factors_at twiddles l)
        (omega (arith, factors-count l h, ap (λ n. n * blocks width twiddles l) end)))

-- all entries as the only part
module _ {F : Type 0} (width count : ℕ) (twiddles : List (Vec F Global)) (wide : 1 ≤ width)
    (layers : AreLayersOf width count twiddles) where
  pub whole-factors : (l : ℕ) → l < length twiddles → factors_of_part width count 0 twiddles l
      ≡ factors_at twiddles l
  whole-factors l h =
      let block = 2 ^ l * width + 2 ^ l * width in
      let positive : 0 < block = omega (arith, half-positive l width wide) in
      let all : count / block ≡ length (factors_at twiddles l) =
      ap (λ n. n / block) (sym (layers l h)) ∙ mul-div_cancel (length (factors_at twiddles l))
      {n = block} positive in
      let none : 0 * (count / block) ≡ 0 = omega arith in
      ap (λ n. take (count / block) (drop n (factors_at twiddles l))) none
      ∙ take_all (count / block) (factors_at twiddles l) (omega (arith, all))

  pub whole-layers : AreLayersOfPart width count 0 twiddles
  whole-layers l h = ap (λ ts. length ts * (2 ^ l * width + 2 ^ l * width)) (whole-factors l h)
      ∙ layers l h

module _ {F : Type 0} (width count m : ℕ) (twiddles : List (Vec F Global)) (wide : 1 ≤ width)
    (layers : AreLayersOf width count twiddles) (within : m ≤ length twiddles) where
  -- the factors of the lowest m layers, and of those above
  pub factors-below : (l : ℕ) → l < m → factors_at (take m twiddles) l ≡ factors_at twiddles l
  factors-below l h = ap (λ vs. slice_index_or vs l []) (sym (take-map (λ v. v.items) m twiddles))
      ∙ get_or-take m (map (λ v. v.items) twiddles) l [] h

  factors-above : (l : ℕ) → factors_at (drop m twiddles) l ≡ factors_at twiddles (m + l)
  factors-above l = ap (λ vs. slice_index_or vs l []) (sym (drop-map (λ v. v.items) m twiddles))
      ∙ get_or-drop m (map (λ v. v.items) twiddles) l []

  pub layers-below : AreLayersOf width count (take m twiddles)
  layers-below l h =
      let lt : l < m = omega (arith, h, length-take-le m twiddles within) in
      ap (λ ts. length ts * (2 ^ l * width + 2 ^ l * width)) (factors-below l lt)
      ∙ layers l (omega (arith, lt, within))

  -- the lowest layers alone, over all entries
  pub lowest-factors : (low high : F → F → F → F) (xs : List F) →
      ascending low high width (factors_of_part width count 0 (take m twiddles))
      (length (take m twiddles)) xs
      ≡ ascending low high width (factors_of_part width count 0 twiddles) m xs
  lowest-factors low high xs =
      ap (λ n. ascending low high width (factors_of_part width count 0 (take m twiddles)) n xs)
      (length-take-le m twiddles within)
      ∙ ascending-same low high width (factors_of_part width count 0 (take m twiddles))
      (factors_of_part width count 0 twiddles) m
      (λ l h. ap (part_of 0 (count / (2 ^ l * width + 2 ^ l * width))) (factors-below l h)) xs

  pub layers-above : AreLayersOf (2 ^ m * width) count (drop m twiddles)
  layers-above l h =
      let block : 2 ^ l * (2 ^ m * width) ≡ 2 ^ (m + l) * width =
      (let e : 2 ^ l * (2 ^ m * width) ≡ 2 ^ m * 2 ^ l * width = omega arith in e)
      ∙ ap (λ n. n * width) (sym (pow-add 2 m l)) in
      ap (λ ts. length ts * (2 ^ l * (2 ^ m * width) + 2 ^ l * (2 ^ m * width))) (factors-above l)
      ∙ ap (λ n. length (factors_at twiddles (m + l)) * (n + n)) block
      ∙ layers (m + l) (omega (arith, h, length-drop m twiddles))

  part-above : (l : ℕ) → l < length (drop m twiddles) →
      factors_of_part (2 ^ m * width) count 0 (drop m twiddles) l ≡ factors_at twiddles (m + l)
  part-above l h =
      whole-factors (2 ^ m * width) count (drop m twiddles)
      (omega (arith, half-positive m width wide)) layers-above l h ∙ factors-above l

  module _ (width' : ℕ) (above below : List (Vec F Global)) (e_width : width' ≡ 2 ^ m * width)
      (e_above : above ≡ drop m twiddles) (e_below : below ≡ take m twiddles) where
    -- likewise for slices that are known to be these
    pub layers-of-above : (n : ℕ) → n ≡ count → AreLayersOf width' n above
    layers-of-above n e =
        subst (λ k. AreLayersOf width' k above) (sym e)
        (subst (λ ts. AreLayersOf width' count ts) (sym e_above)
        (subst (λ w. AreLayersOf w count (drop m twiddles)) (sym e_width) layers-above))

    pub layers-of-below : (n : ℕ) → n ≡ count → AreLayersOf width n below
    layers-of-below n e =
        subst (λ ts. AreLayersOf width n ts) (sym e_below)
        (subst (λ k. AreLayersOf width k (take m twiddles)) (sym e) layers-below)

  -- first the layers above, then those below
  pub descend-all : (low high : F → F → F → F) (xs : List F) →
      descending low high width (factors_at (take m twiddles)) (length (take m twiddles))
      (descending low high (2 ^ m * width)
      (factors_of_part (2 ^ m * width) count 0 (drop m twiddles)) (length (drop m twiddles)) xs)
      ≡ descending low high width (factors_at twiddles) (length twiddles) xs
  descend-all low high xs =
      let fs = factors_at twiddles in
      let k = length (drop m twiddles) in
      let upper =
      descending low high (2 ^ m * width)
      (factors_of_part (2 ^ m * width) count 0 (drop m twiddles)) k xs in
      let sum : m + k ≡ length twiddles = omega (arith, within, length-drop m twiddles) in
      ap (λ n. descending low high width (factors_at (take m twiddles)) n upper)
      (length-take-le m twiddles within)
      ∙ descending-same low high width (factors_at (take m twiddles)) fs m factors-below upper
      ∙ ap (descending low high width fs m)
      (descending-same low high (2 ^ m * width)
      (factors_of_part (2 ^ m * width) count 0 (drop m twiddles)) (λ l. fs (m + l)) k part-above
      xs)
      ∙ sym (descending-above low high width fs m k xs)
      ∙ ap (λ n. descending low high width fs n xs) sum

  -- or first the layers below
  pub ascend-all : (low high : F → F → F → F) (xs : List F) →
      ascending low high (2 ^ m * width) (factors_at (drop m twiddles)) (length (drop m twiddles))
      (ascending low high width (factors_at (take m twiddles)) (length (take m twiddles)) xs)
      ≡ ascending low high width (factors_at twiddles) (length twiddles) xs
  ascend-all low high xs =
      let fs = factors_at twiddles in
      let k = length (drop m twiddles) in
      let sum : m + k ≡ length twiddles = omega (arith, within, length-drop m twiddles) in
      ap
      (λ n. ascending low high (2 ^ m * width) (factors_at (drop m twiddles)) k
      (ascending low high width (factors_at (take m twiddles)) n xs))
      (length-take-le m twiddles within)
      ∙ ap (ascending low high (2 ^ m * width) (factors_at (drop m twiddles)) k)
      (ascending-same low high width (factors_at (take m twiddles)) fs m factors-below xs)
      ∙ ascending-same low high (2 ^ m * width) (factors_at (drop m twiddles)) (λ l. fs (m + l)) k
      (λ l h. factors-above l) (ascending low high width fs m xs)
      ∙ sym (ascending-above low high width fs m k xs)
      ∙ ap (λ n. ascending low high width fs n xs) sum

  -- and so of slices that are known to be these
  pub descend-both : (low high : F → F → F → F) (width' : ℕ) (above below : List (Vec F Global))
      (xs ys zs : List F) → width' ≡ 2 ^ m * width → above ≡ drop m twiddles →
      below ≡ take m twiddles →
      ys ≡ descending low high width' (factors_of_part width' count 0 above) (length above) xs →
      zs ≡ descending low high width (factors_at below) (length below) ys →
      zs ≡ descending low high width (factors_at twiddles) (length twiddles) xs
  descend-both low high width' above below xs ys zs e_width e_above e_below upper lower =
      lower
      ∙ ap (λ ts. descending low high width (factors_at ts) (length ts) ys) e_below
      ∙ ap (descending low high width (factors_at (take m twiddles)) (length (take m twiddles)))
      (upper
      ∙ ap (λ ts. descending low high width' (factors_of_part width' count 0 ts) (length ts) xs)
      e_above
      ∙ ap
      (λ w. descending low high w (factors_of_part w count 0 (drop m twiddles))
      (length (drop m twiddles)) xs) e_width)
      ∙ descend-all low high xs

  pub ascend-both : (low high : F → F → F → F) (width' : ℕ) (above below : List (Vec F Global))
      (finish : F → F) (xs ys zs : List F) → width' ≡ 2 ^ m * width → above ≡ drop m twiddles →
      below ≡ take m twiddles →
      ys ≡ ascending low high width (factors_at below) (length below) xs →
      zs ≡ map finish (ascending low high width' (factors_at above) (length above) ys) →
      zs ≡ map finish (ascending low high width (factors_at twiddles) (length twiddles) xs)
  ascend-both low high width' above below finish xs ys zs e_width e_above e_below lower upper =
      upper
      ∙ ap (λ ts. map finish (ascending low high width' (factors_at ts) (length ts) ys)) e_above
      ∙ ap
      (λ w. map finish
      (ascending low high w (factors_at (drop m twiddles)) (length (drop m twiddles)) ys))
      e_width
      ∙ ap
      (λ us. map finish
      (ascending low high (2 ^ m * width) (factors_at (drop m twiddles))
      (length (drop m twiddles)) us))
      (lower ∙ ap (λ ts. ascending low high width (factors_at ts) (length ts) xs) e_below)
      ∙ ap (map finish) (ascend-all low high xs)

-- half of a block is not more than all entries
pub half-within : {F : Type 0} (width count m : ℕ) (twiddles : List (Vec F Global)) → 1 ≤ width →
    1 ≤ count → AreLayersOf width count twiddles → m ≤ length twiddles →
    (2 ^ m * width ≡ width) ⊎ (2 ^ m * width ≤ count)
half-within width count zero twiddles wide some layers within = inl (omega arith)
half-within width count (suc m) twiddles wide some layers within =
    let one : m + 1 ≡ suc m = omega arith in
    let whole : length (factors_at twiddles m) * (2 ^ (m + 1) * width) ≡ count =
    ap (λ x. length (factors_at twiddles m) * x) (half-more m width)
    ∙ layers m (omega (arith, within)) in
    let least : 1 ≤ length (factors_at twiddles m) =
    omega (
      arith,
      positive_factor (length (factors_at twiddles m)) (2 ^ (m + 1) * width) count
          whole some,
    ) in
    let fits : 1 * (2 ^ (m + 1) * width) ≤ length (factors_at twiddles m) * (2 ^ (m + 1) * width) =
    mul-le-mul_right (2 ^ (m + 1) * width) least in
    inr (omega (arith, fits, whole, ap (λ n. 2 ^ n * width) one))
