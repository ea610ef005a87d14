-- All layers, one after another, over all entries or over one part after another.
use Rattle.std.specs.Prelude.{◌≡◌, ℕ, ◌+◌, ◌*◌, ◌^◌, ◌<◌, List, ◌++◌, length}
use Rattle.std.proofs.Common.{zero, suc, sym, ◌∙◌, ap, refl, arith}
use Rattle.std.proofs.lemmas.Nat.{pow-add}
use Rattle.circle_domain.specs.Layers.{layer}
use Rattle.circle_cfft.specs.Passes.{descending, ascending}
use Rattle.circle_cfft.proofs.PairLayers.{length-layer, layer-append}
use Rattle.circle_cfft.proofs.BlockSizes.{half-more}

module _ {F : Type 0} (low high : F → F → F → F) where
  module _ (width : ℕ) where
    -- the same layers, by the same factors
    pub descending-same : (fs gs : ℕ → List F) (n : ℕ) → ((l : ℕ) → l < n → fs l ≡ gs l) →
        (xs : List F) → descending low high width fs n xs ≡ descending low high width gs n xs
    descending-same fs gs zero same xs = refl
    descending-same fs gs (suc n) same xs =
        ap (λ ts. descending low high width fs n (layer low high (2 ^ n * width) ts xs))
        (same n (omega arith))
        ∙ descending-same fs gs n (λ l h. same l (omega (arith, h)))
        (layer low high (2 ^ n * width) (gs n) xs)

    -- the layers of the first entries, and those of the others
    pub descending-append : (fs gs : ℕ → List F) (n : ℕ) (xs ys : List F) →
        ((l : ℕ) → l < n → length xs ≡ length (fs l) * (2 ^ l * width + 2 ^ l * width)) →
        descending low high width (λ l. fs l ++ gs l) n (xs ++ ys)
        ≡ descending low high width fs n xs ++ descending low high width gs n ys
    descending-append fs gs zero xs ys long = refl
    descending-append fs gs (suc n) xs ys long =
        let half = 2 ^ n * width in
        let e : length xs ≡ length (fs n) * (half + half) = long n (omega arith) in
        ap (descending low high width (λ l. fs l ++ gs l) n)
        (layer-append low high half (fs n) (gs n) xs ys e)
        ∙ descending-append fs gs n (layer low high half (fs n) xs) (layer low high half (gs n) ys)
        (λ l h. length-layer low high half (fs n) xs e ∙ long l (omega (arith, h)))

    -- the two highest of k layers
    pub descend-step : (fs : ℕ → List F) (m k quarter : ℕ) (uppers lowers values new : List F) →
        k ≡ m + 2 → quarter ≡ 2 ^ m * width → uppers ≡ fs (m + 1) → lowers ≡ fs m →
        new ≡ layer low high quarter lowers (layer low high (quarter + quarter) uppers values) →
        descending low high width fs m new ≡ descending low high width fs k values
    descend-step fs m k quarter uppers lowers values new more size is_upper is_lower made =
        let two : suc (suc m) ≡ k = omega (arith, more) in
        let one : m + 1 ≡ suc m = omega arith in
        let half : quarter + quarter ≡ 2 ^ suc m * width = ap (λ q. q + q) size
        ∙ sym (half-more m width) ∙ ap (λ n. 2 ^ n * width) one in
        ap (descending low high width fs m)
        (made ∙ ap (λ h. layer low high quarter lowers (layer low high h uppers values)) half
        ∙ ap (λ q. layer low high q lowers (layer low high (2 ^ suc m * width) uppers values)) size
        ∙ ap
        (λ ts. layer low high (2 ^ m * width) ts
        (layer low high (2 ^ suc m * width) uppers values)) is_lower
        ∙ ap
        (λ ts. layer low high (2 ^ m * width) (fs m)
        (layer low high (2 ^ suc m * width) ts values)) (is_upper ∙ ap fs one))
        ∙ ap (λ n. descending low high width fs n values) two

    -- the layers above the lowest m, and then these
    pub descending-above : (fs : ℕ → List F) (m k : ℕ) (xs : List F) →
        descending low high width fs (m + k) xs
        ≡ descending low high width fs m
        (descending low high (2 ^ m * width) (λ l. fs (m + l)) k xs)
    descending-above fs m zero xs = let e : m + 0 ≡ m = omega arith in
        ap (λ n. descending low high width fs n xs) e
    descending-above fs m (suc k) xs =
        let e : m + suc k ≡ suc (m + k) = omega arith in
        let size : 2 ^ (m + k) * width ≡ 2 ^ k * (2 ^ m * width) =
        ap (λ n. n * width) (pow-add 2 m k)
        ∙ (let p : 2 ^ m * 2 ^ k * width ≡ 2 ^ k * (2 ^ m * width) = omega arith in p) in
        ap (λ n. descending low high width fs n xs) e
        ∙ descending-above fs m k (layer low high (2 ^ (m + k) * width) (fs (m + k)) xs)
        ∙ ap
        (λ h. descending low high width fs m
        (descending low high (2 ^ m * width) (λ l. fs (m + l)) k
        (layer low high h (fs (m + k)) xs))) size

    -- and likewise of the smallest blocks first
    pub ascending-same : (fs gs : ℕ → List F) (n : ℕ) → ((l : ℕ) → l < n → fs l ≡ gs l) →
        (xs : List F) → ascending low high width fs n xs ≡ ascending low high width gs n xs
    ascending-same fs gs zero same xs = refl
    ascending-same fs gs (suc n) same xs =
        ap (λ ts. layer low high (2 ^ n * width) ts (ascending low high width fs n xs))
        (same n (omega arith))
        ∙ ap (layer low high (2 ^ n * width) (gs n))
        (ascending-same fs gs n (λ l h. same l (omega (arith, h))) xs)

    pub length-ascending : (fs : ℕ → List F) (n : ℕ) (xs : List F) →
        ((l : ℕ) → l < n → length xs ≡ length (fs l) * (2 ^ l * width + 2 ^ l * width)) →
        length (ascending low high width fs n xs) ≡ length xs
    length-ascending fs zero xs long = refl
    length-ascending fs (suc n) xs long =
        let kept : length (ascending low high width fs n xs) ≡ length xs =
        length-ascending fs n xs (λ l h. long l (omega (arith, h))) in
        length-layer low high (2 ^ n * width) (fs n) (ascending low high width fs n xs)
        (kept ∙ long n (omega arith)) ∙ kept

    pub ascending-append : (fs gs : ℕ → List F) (n : ℕ) (xs ys : List F) →
        ((l : ℕ) → l < n → length xs ≡ length (fs l) * (2 ^ l * width + 2 ^ l * width)) →
        ascending low high width (λ l. fs l ++ gs l) n (xs ++ ys) ≡ ascending low high width fs n xs
        ++ ascending low high width gs n ys
    ascending-append fs gs zero xs ys long = refl
    ascending-append fs gs (suc n) xs ys long =
        let half = 2 ^ n * width in
        let kept : length (ascending low high width fs n xs) ≡ length xs =
        length-ascending fs n xs (λ l h. long l (omega (arith, h))) in
        ap (layer low high half (fs n ++ gs n))
        (ascending-append fs gs n xs ys (λ l h. long l (omega (arith, h))))
        ∙ layer-append low high half (fs n) (gs n) (ascending low high width fs n xs)
        (ascending low high width gs n ys) (kept ∙ long n (omega arith))

    -- two layers above the lowest m
    pub ascend-step : (fs : ℕ → List F) (m k quarter : ℕ) (uppers lowers values : List F) →
        k ≡ m + 2 → quarter ≡ 2 ^ m * width → uppers ≡ fs (m + 1) → lowers ≡ fs m →
        (xs : List F) → values ≡ ascending low high width fs m xs →
        layer low high (quarter + quarter) uppers (layer low high quarter lowers values)
        ≡ ascending low high width fs k xs
    ascend-step fs m k quarter uppers lowers values more size is_upper is_lower xs so_far =
        let two : suc (suc m) ≡ k = omega (arith, more) in
        let one : m + 1 ≡ suc m = omega arith in
        let half : quarter + quarter ≡ 2 ^ suc m * width = ap (λ q. q + q) size
        ∙ sym (half-more m width) ∙ ap (λ n. 2 ^ n * width) one in
        ap (λ h. layer low high h uppers (layer low high quarter lowers values)) half
        ∙ ap (λ q. layer low high (2 ^ suc m * width) uppers (layer low high q lowers values)) size
        ∙ ap
        (λ ts. layer low high (2 ^ suc m * width) ts
        (layer low high (2 ^ m * width) lowers values)) (is_upper ∙ ap fs one)
        ∙ ap
        (λ ts. layer low high (2 ^ suc m * width) (fs (suc m))
        (layer low high (2 ^ m * width) ts values)) is_lower
        ∙ ap
        (λ ys. layer low high (2 ^ suc m * width) (fs (suc m))
        (layer low high (2 ^ m * width) (fs m) ys)) so_far
        ∙ ap (λ n. ascending low high width fs n xs) two

    -- the lowest m layers, and then those above
    pub ascending-above : (fs : ℕ → List F) (m k : ℕ) (xs : List F) →
        ascending low high width fs (m + k) xs
        ≡ ascending low high (2 ^ m * width) (λ l. fs (m + l)) k
        (ascending low high width fs m xs)
    ascending-above fs m zero xs = let e : m + 0 ≡ m = omega arith in
        ap (λ n. ascending low high width fs n xs) e
    ascending-above fs m (suc k) xs =
        let e : m + suc k ≡ suc (m + k) = omega arith in
        let size : 2 ^ (m + k) * width ≡ 2 ^ k * (2 ^ m * width) =
        ap (λ n. n * width) (pow-add 2 m k)
        ∙ (let p : 2 ^ m * 2 ^ k * width ≡ 2 ^ k * (2 ^ m * width) = omega arith in p) in
        ap (λ n. ascending low high width fs n xs) e
        ∙ ap (layer low high (2 ^ (m + k) * width) (fs (m + k))) (ascending-above fs m k xs)
        ∙ ap
        (λ h. layer low high h (fs (m + k))
        (ascending low high (2 ^ m * width) (λ l. fs (m + l)) k
        (ascending low high width fs m xs))) size
