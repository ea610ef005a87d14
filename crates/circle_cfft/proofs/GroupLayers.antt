-- Layers that are applied in some order: their lengths, their columns, and what they do to one
-- block and those behind it.
use Rattle.std.specs.Prelude.{◌≡◌, ℕ, ◌+◌, ◌-◌, ◌*◌, ◌^◌, ◌<◌, ◌≤◌, List, [], ◌∷◌, ◌++◌, length}
use Rattle.std.specs.Prelude.{take, drop}
use Rattle.std.proofs.Common.{zero, suc, sym, ◌∙◌, ap, refl, arith, length-drop}
use Rattle.std.proofs.Math.Nat.{mul_assoc, pow-suc}
use Rattle.std.proofs.lemmas.Nat.{pow-add}
use Rattle.std.proofs.lemmas.List.{length-take-le, take_all, drop_all}
use Rattle.circle_commit.specs.DotProduct.{pairwise}
use Rattle.circle_domain.specs.Layers.{layer}
use Rattle.circle_domain.proofs.Columns.{stored_column-layer}
use Rattle.circle_cfft.proofs.PairLayers.{length-layer, layer-append}
use Rattle.circle_cfft.specs.Groups.{in_order, block_factors, HasFactors, lane_column}

module _ {F : Type 0} (low high : F → F → F → F) (half : ℕ) where
  -- no entries
  pub layer-nil : (ts : List F) → layer low high half ts [] ≡ []
  layer-nil [] = refl
  layer-nil (t ∷ ts) =
      let empty : List F = [] in
      ap
      (λ a. (pairwise (low t) a (take half (drop half empty))
      ++ pairwise (high t) a (take half (drop half empty)))
      ++ layer low high half ts (drop (half + half) empty)) (take_all half empty (omega arith))
      ∙ ap (layer low high half ts) (drop_all (half + half) empty (omega arith)) ∙ layer-nil ts

module _ {F : Type 0} (low high : F → F → F → F) (order : ℕ → ℕ) (width : ℕ) where
  -- the first n layers of the order have factors for count entries
  abbrev pub FactorsFit : (ℕ → List F) → ℕ → ℕ → Type 0
  FactorsFit fs n count = (s : ℕ) → s < n →
      length (fs (order s)) * (2 ^ order s * width + 2 ^ order s * width) ≡ count

  pub length-in_order : (fs : ℕ → List F) (n : ℕ) (xs : List F) → FactorsFit fs n (length xs) →
      length (in_order low high order width fs n xs) ≡ length xs
  length-in_order fs zero xs fit = refl
  length-in_order fs (suc n) xs fit =
      let before = length-in_order fs n xs (λ s h. fit s (omega (arith, h))) in
      let here : length (in_order low high order width fs n xs) ≡ length (fs (order n)) *
      (2 ^ order n * width + 2 ^ order n * width) = before ∙ sym (fit n (omega arith)) in
      length-layer low high (2 ^ order n * width) (fs (order n))
      (in_order low high order width fs n xs) here ∙ before

  -- factors that are the same at each layer
  pub in_order-same : (fs gs : ℕ → List F) (n : ℕ) (xs : List F) →
      ((s : ℕ) → s < n → fs (order s) ≡ gs (order s)) → in_order low high order width fs n xs
      ≡ in_order low high order width gs n xs
  in_order-same fs gs zero xs same = refl
  in_order-same fs gs (suc n) xs same =
      ap (λ ts. layer low high (2 ^ order n * width) ts (in_order low high order width fs n xs))
      (same n (omega arith))
      ∙ ap (layer low high (2 ^ order n * width) (gs (order n)))
      (in_order-same fs gs n xs (λ s h. same s (omega (arith, h))))

  -- the layers of some blocks, and of those behind them
  pub in_order-append : (fs gs hs : ℕ → List F) (n : ℕ) (xs ys : List F) →
      ((s : ℕ) → s < n → hs (order s) ≡ fs (order s) ++ gs (order s)) →
      FactorsFit fs n (length xs) →
      in_order low high order width hs n (xs ++ ys) ≡ in_order low high order width fs n xs
      ++ in_order low high order width gs n ys
  in_order-append fs gs hs zero xs ys parts fit = refl
  in_order-append fs gs hs (suc n) xs ys parts fit =
      let earlier : FactorsFit fs n (length xs) = λ s h. fit s (omega (arith, h)) in
      let half = 2 ^ order n * width in
      let a = in_order low high order width fs n xs in
      let here : length a ≡ length (fs (order n)) * (half + half) = length-in_order fs n xs earlier
      ∙ sym (fit n (omega arith)) in
      ap (layer low high half (hs (order n)))
      (in_order-append fs gs hs n xs ys (λ s h. parts s (omega (arith, h))) earlier)
      ∙ ap (λ ts. layer low high half ts (a ++ in_order low high order width gs n ys))
      (parts n (omega arith))
      ∙ layer-append low high half (fs (order n)) (gs (order n)) a
      (in_order low high order width gs n ys) here

  pub in_order-nil : (fs : ℕ → List F) (n : ℕ) → in_order low high order width fs n [] ≡ []
  in_order-nil fs zero = refl
  in_order-nil fs (suc n) =
      ap (layer low high (2 ^ order n * width) (fs (order n))) (in_order-nil fs n)
      ∙ layer-nil low high (2 ^ order n * width) (fs (order n))

-- the entries of n lanes
pub lane-entries : (n half stride height : ℕ) → n * (half + half) ≡ height →
    n * (half * stride + half * stride) ≡ height * stride
lane-entries n half stride height e =
    let both : half * stride + half * stride ≡ (half + half) * stride = omega arith in
    ap (λ m. n * m) both ∙ sym (mul_assoc n (half + half) stride) ∙ ap (λ m. m * stride) e

-- layers of lanes are those of each column
pub in_order-column : {F : Type 0} (low high : F → F → F → F) (order : ℕ → ℕ) (d : F)
    (stride height j : ℕ) (fs : ℕ → List F) (n : ℕ) (xs : List F) → j < stride →
    length xs ≡ height * stride →
    ((s : ℕ) → s < n → length (fs (order s)) * (2 ^ order s + 2 ^ order s) ≡ height) →
    lane_column d stride height j (in_order low high order stride fs n xs)
    ≡ in_order low high order 1 fs n (lane_column d stride height j xs)
in_order-column low high order d stride height j fs zero xs inside long fit = refl
in_order-column low high order d stride height j fs (suc n) xs inside long fit =
    let half = 2 ^ order n in
    let ts = fs (order n) in
    let a = in_order low high order stride fs n xs in
    let earlier : (s : ℕ) → s < n → length (fs (order s)) * (2 ^ order s + 2 ^ order s) ≡ height =
    λ s h. fit s (omega (arith, h)) in
    let tall : length ts * (half + half) ≡ height = fit n (omega arith) in
    let one : half ≡ half * 1 = omega arith in
    let same : length a ≡ length xs =
    length-in_order low high order stride fs n xs
    (λ s h. lane-entries (length (fs (order s))) (2 ^ order s) stride height (earlier s h)
    ∙ sym long) in
    ap (λ m. lane_column d stride m j (layer low high (half * stride) ts a)) (sym tall)
    ∙ stored_column-layer d stride j low high ts half a inside
    (same ∙ long ∙ sym (lane-entries (length ts) half stride height tall))
    ∙ ap (λ m. layer low high half ts (lane_column d stride m j a)) tall
    ∙ ap (layer low high half ts)
    (in_order-column low high order d stride height j fs n xs inside long earlier)
    ∙ ap
    (λ h. layer low high h ts
    (in_order low high order 1 fs n (lane_column d stride height j xs))) one

-- half of 2^n lanes
pub half-power : (n : ℕ) → 1 ≤ n → 2 ^ (n - 1) + 2 ^ (n - 1) ≡ 2 ^ n
half-power n some =
    let e : suc (n - 1) ≡ n = omega (arith, some) in
    let twice : 2 ^ (n - 1) + 2 ^ (n - 1) ≡ 2 ^ suc (n - 1) = omega (arith, pow-suc 2 (n - 1)) in
    twice ∙ ap (λ m. 2 ^ m) e

module _ (n l : ℕ) (below : l < n) where
  -- the parts of layer l, of half as many pairs of lanes each
  pub pairs-of-parts : 2 ^ (n - 1 - l) * 2 ^ l ≡ 2 ^ (n - 1)
  pairs-of-parts = let e : n - 1 - l + l ≡ n - 1 = omega (arith, below) in
      sym (pow-add 2 (n - 1 - l) l) ∙ ap (λ m. 2 ^ m) e

  pub lanes-of-parts : 2 ^ (n - 1 - l) * (2 ^ l + 2 ^ l) ≡ 2 ^ n
  lanes-of-parts =
      let both : 2 ^ (n - 1 - l) * (2 ^ l + 2 ^ l) ≡ 2 ^ (n - 1 - l) * 2 ^ l + 2 ^ (n - 1 - l) * 2 ^
      l = omega arith in
      both ∙ ap (λ m. m + m) pairs-of-parts ∙ half-power n (omega (arith, below))

  pub length-block_factors : {F : Type 0} (index : ℕ) (fs : ℕ → List F) → HasFactors n index fs →
      length (block_factors n index fs l) ≡ 2 ^ (n - 1 - l)
  length-block_factors index fs has =
      let p = 2 ^ (n - 1 - l) in
      let enough : (index + 1) * p ≤ length (fs l) = has l below in
      length-take-le p (drop (index * p) (fs l))
      (omega (arith, enough, length-drop (index * p) (fs l)))
