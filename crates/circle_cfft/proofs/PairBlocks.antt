-- Two layers over all blocks, one block after another.
use Rattle.std.specs.Prelude.{◌≡◌, ℕ, ◌+◌, ◌*◌, ◌<◌, ◌≤◌, List, [], ◌∷◌, ◌++◌, length, take, drop}
use Rattle.std.specs.Prelude.{slice_index_or}
use Rattle.std.proofs.Common.{sym, ◌∙◌, ap, refl, arith}
use Rattle.std.proofs.lemmas.List.{drop_more, drop_all, length-take-le, take-append-drop}
use Rattle.circle_domain.specs.Layers.{layer}
use Rattle.circle_cfft.proofs.PairLayers.{length-layer, layer-append}

-- one entry, and two, of what is left of a list
drop-one : {F : Type 0} (ts : List F) (i : ℕ) (t : F) → i < length ts → t ≡ slice_index_or ts i t →
    drop i ts ≡ t ∷ drop (i + 1) ts
drop-one ts i t h is_t = drop_more ts i t h ∙ ap (λ x. x ∷ drop (i + 1) ts) (sym is_t)

drop-two : {F : Type 0} (ts : List F) (i : ℕ) (u v : F) → i + i + 1 < length ts →
    u ≡ slice_index_or ts (2 * i) u → v ≡ slice_index_or ts (2 * i + 1) v →
    drop (i + i) ts ≡ u ∷ v ∷ drop ((i + 1) + (i + 1)) ts
drop-two ts i u v h is_u is_v =
    let e : 2 * i ≡ i + i = omega arith in
    let e' : 2 * i + 1 ≡ i + i + 1 = omega arith in
    let e'' : i + i + 1 + 1 ≡ (i + 1) + (i + 1) = omega arith in
    drop-one ts (i + i) u (omega (arith, h)) (is_u ∙ ap (λ n. slice_index_or ts n u) e)
    ∙ ap (λ xs. u ∷ xs) (drop-one ts (i + i + 1) v h (is_v ∙ ap (λ n. slice_index_or ts n v) e'))
    ∙ ap (λ n. u ∷ v ∷ drop n ts) e''

module _ {F : Type 0} (low high : F → F → F → F) (quarter : ℕ) where
  descend-append : (us us' ls ls' xs xs' : List F) →
      length xs ≡ length us * ((quarter + quarter) + (quarter + quarter)) → length ls ≡ length us
      + length us →
      layer low high quarter (ls ++ ls')
      (layer low high (quarter + quarter) (us ++ us') (xs ++ xs'))
      ≡ layer low high quarter ls (layer low high (quarter + quarter) us xs)
      ++ layer low high quarter ls' (layer low high (quarter + quarter) us' xs')
  descend-append us us' ls ls' xs xs' long two =
      let half = quarter + quarter in
      let kept : length (layer low high half us xs) ≡ length ls * half =
      length-layer low high half us xs long ∙ long
      ∙ (let e : length us * (half + half) ≡ (length us + length us) * half = omega arith in e)
      ∙ ap (λ n. n * half) (sym two) in
      ap (layer low high quarter (ls ++ ls')) (layer-append low high half us us' xs xs' long)
      ∙ layer-append low high quarter ls ls' (layer low high half us xs)
      (layer low high half us' xs') kept

  ascend-append : (us us' ls ls' xs xs' : List F) →
      length xs ≡ length us * ((quarter + quarter) + (quarter + quarter)) → length ls ≡ length us
      + length us →
      layer low high (quarter + quarter) (us ++ us')
      (layer low high quarter (ls ++ ls') (xs ++ xs'))
      ≡ layer low high (quarter + quarter) us (layer low high quarter ls xs)
      ++ layer low high (quarter + quarter) us' (layer low high quarter ls' xs')
  ascend-append us us' ls ls' xs xs' long two =
      let half = quarter + quarter in
      let lower : length xs ≡ length ls * half =
      long ∙ (let e : length us * (half + half) ≡ (length us + length us) * half =
      omega arith in e) ∙ ap (λ n. n * half) (sym two) in
      ap (layer low high half (us ++ us')) (layer-append low high quarter ls ls' xs xs' lower)
      ∙ layer-append low high half us us' (layer low high quarter ls xs)
      (layer low high quarter ls' xs') (length-layer low high quarter ls xs lower ∙ long)

  module _ (uppers lowers : List F) where
    -- both layers of what is left from block i on, the upper first
    abbrev pub descend_rest : ℕ → List F → List F
    descend_rest i xs =
        layer low high quarter (drop (i + i) lowers)
        (layer low high (quarter + quarter) (drop i uppers) xs)

    -- and the lower first
    abbrev pub ascend_rest : ℕ → List F → List F
    ascend_rest i xs =
        layer low high (quarter + quarter) (drop i uppers)
        (layer low high quarter (drop (i + i) lowers) xs)

    module _ (i : ℕ) (t u v : F) (zs : List F) (len : ℕ) (two : length lowers ≡ length uppers
        + length uppers) (here : i < length uppers)
        (is_t : t ≡ slice_index_or uppers i t) (is_u : u ≡ slice_index_or lowers (2 * i) u)
        (is_v : v ≡ slice_index_or lowers (2 * i + 1) v)
        (size : len ≡ (quarter + quarter) + (quarter + quarter)) (enough : len ≤ length zs) where
      upper : drop i uppers ≡ t ∷ drop (i + 1) uppers
      upper = drop-one uppers i t here is_t

      lower : drop (i + i) lowers ≡ u ∷ v ∷ drop ((i + 1) + (i + 1)) lowers
      lower = drop-two lowers i u v (omega (arith, here, two)) is_u is_v

      one_block : length (take len zs) ≡ 1 * ((quarter + quarter) + (quarter + quarter))
      one_block = length-take-le len zs enough ∙ omega (arith, size)

      pub descend_rest-more : descend_rest i zs
          ≡ layer low high quarter (u ∷ v ∷ [])
          (layer low high (quarter + quarter) (t ∷ []) (take len zs))
          ++ descend_rest (i + 1) (drop len zs)
      descend_rest-more =
          ap
          (λ ts. layer low high quarter (drop (i + i) lowers)
          (layer low high (quarter + quarter) ts zs)) upper
          ∙ ap
          (λ ls. layer low high quarter ls
          (layer low high (quarter + quarter) (t ∷ drop (i + 1) uppers) zs)) lower
          ∙ ap
          (λ xs. layer low high quarter (u ∷ v ∷ drop ((i + 1) + (i + 1)) lowers)
          (layer low high (quarter + quarter) (t ∷ drop (i + 1) uppers) xs))
          (sym (take-append-drop len zs))
          ∙ descend-append (t ∷ []) (drop (i + 1) uppers) (u ∷ v ∷ [])
          (drop ((i + 1) + (i + 1)) lowers) (take len zs) (drop len zs) one_block refl

      pub ascend_rest-more : ascend_rest i zs
          ≡ layer low high (quarter + quarter) (t ∷ [])
          (layer low high quarter (u ∷ v ∷ []) (take len zs)) ++ ascend_rest (i + 1) (drop len zs)
      ascend_rest-more =
          ap
          (λ ts. layer low high (quarter + quarter) ts
          (layer low high quarter (drop (i + i) lowers) zs)) upper
          ∙ ap
          (λ ls. layer low high (quarter + quarter) (t ∷ drop (i + 1) uppers)
          (layer low high quarter ls zs)) lower
          ∙ ap
          (λ xs. layer low high (quarter + quarter) (t ∷ drop (i + 1) uppers)
          (layer low high quarter (u ∷ v ∷ drop ((i + 1) + (i + 1)) lowers) xs))
          (sym (take-append-drop len zs))
          ∙ ascend-append (t ∷ []) (drop (i + 1) uppers) (u ∷ v ∷ [])
          (drop ((i + 1) + (i + 1)) lowers) (take len zs) (drop len zs) one_block refl

    pub descend_rest-none : (i : ℕ) → length lowers ≡ length uppers + length uppers →
        i ≡ length uppers → descend_rest i [] ≡ []
    descend_rest-none i two end =
        ap
        (λ ts. layer low high quarter (drop (i + i) lowers)
        (layer low high (quarter + quarter) ts [])) (drop_all i uppers (omega (arith, end)))
        ∙ ap (λ ls. layer low high quarter ls [])
        (drop_all (i + i) lowers (omega (arith, end, two)))

    pub ascend_rest-none : (i : ℕ) → length lowers ≡ length uppers + length uppers →
        i ≡ length uppers → ascend_rest i [] ≡ []
    ascend_rest-none i two end =
        ap
        (λ ts. layer low high (quarter + quarter) ts
        (layer low high quarter (drop (i + i) lowers) []))
        (drop_all i uppers (omega (arith, end)))
