-- A word that is made anew one block after another.
use Rattle.std.specs.Prelude.{◌≡◌, ℕ, ◌+◌, ◌*◌, ◌<◌, ◌≤◌, List, [], ◌∷◌, ◌++◌, length, take, drop}
use Rattle.std.specs.Prelude.{slice_index_or}
use Rattle.std.proofs.Common.{sym, ◌∙◌, ap, arith, append_assoc, append-nil, add-one}
use Rattle.std.proofs.Math.Nat.{suc-mul}
use Rattle.std.proofs.lemmas.List.{drop_more, drop-drop, take-take, drop-take, drop_all, take_all}
use Rattle.std.proofs.lemmas.Slice.{take-put_mid, drop-put_mid}
use borrow.Rule.Slice.PartMut.{put_mid, mid_of}
use Rattle.circle_commit.specs.DotProduct.{pairwise}
use Rattle.circle_domain.specs.Layers.{layer}

-- blocks of n entries, made anew of one value each
module _ {A B : Type 0} (anew : List B → List A → List A) (n : ℕ) where
  -- a block that was made anew in its place
  pub block-more : (ts : List B) (xs ys : List A) (t : B) (i start len : ℕ) → i < length ts →
      t ≡ slice_index_or ts i t → start ≡ i * n → len ≡ n →
      start + len ≤ length xs → length ys ≡ len →
      ys ++ anew (drop (i + 1) ts) (drop len (drop start xs))
      ≡ anew (t ∷ drop (i + 1) ts) (drop start xs) →
      take ((i + 1) * n) (put_mid start len xs ys)
      ++ anew (drop (i + 1) ts) (drop ((i + 1) * n) (put_mid start len xs ys))
      ≡ take (i * n) xs ++ anew (drop i ts) (drop (i * n) xs)
  block-more ts xs ys t i start len h is_t e_start e_len fits long made =
      let ts' = drop (i + 1) ts in
      let put = put_mid start len xs ys in
      let next : (i + 1) * n ≡ start + len = ap (λ m. m * n) (add-one i) ∙ suc-mul i n
      ∙ omega (arith, e_start, e_len) in
      let whole : drop i ts ≡ t ∷ ts' = drop_more ts i t h ∙ ap (λ x. x ∷ ts') (sym is_t) in
      ap (λ m. take m put ++ anew ts' (drop m put)) next
      ∙ ap (λ a. a ++ anew ts' (drop (start + len) put))
      (take-put_mid start len xs ys (start + len) (omega (arith, long)) (omega (arith, fits)))
      ∙ ap (λ b. (take start xs ++ ys) ++ anew ts' b)
      (drop-put_mid start len xs ys (start + len) (omega arith) (omega (arith, fits)) long
      ∙ sym (drop-drop len start xs))
      ∙ append_assoc (take start xs) ys (anew ts' (drop len (drop start xs)))
      ∙ ap (λ b. take start xs ++ b) (made ∙ ap (λ us. anew us (drop start xs)) (sym whole))
      ∙ ap (λ m. take m xs ++ anew (drop i ts) (drop m xs)) e_start

  -- no block is left
  pub block-end : (ts : List B) (xs : List A) (i : ℕ) → length xs ≡ length ts * n → i ≡ length ts →
      anew [] [] ≡ [] →
      take (i * n) xs ++ anew (drop i ts) (drop (i * n) xs) ≡ xs
  block-end ts xs i long e none =
      let all : length xs ≡ i * n = long ∙ ap (λ m. m * n) (sym e) in
      ap (λ us. take (i * n) xs ++ anew us (drop (i * n) xs)) (drop_all i ts (omega (arith, e)))
      ∙ ap (λ us. take (i * n) xs ++ anew [] us) (drop_all (i * n) xs (omega (arith, all)))
      ∙ ap (λ us. take (i * n) xs ++ us) none ∙ append-nil (take (i * n) xs)
      ∙ take_all (i * n) xs (omega (arith, all))

module _ {F : Type 0} (low high : F → F → F → F) (half : ℕ) where
  -- the two halves of the first block, made anew
  abbrev pub block : F → List F → List F
  block t xs = pairwise (low t) (take half xs) (drop half xs)
      ++ pairwise (high t) (take half xs) (drop half xs)

  -- a block of a layer
  pub layer-more : (ts xs ys : List F) (t : F) (i start len : ℕ) → i < length ts →
      t ≡ slice_index_or ts i t → start ≡ i * (half + half) → len ≡ half + half →
      start + len ≤ length xs → length ys ≡ len → ys ≡ block t (mid_of start len xs) →
      take ((i + 1) * (half + half)) (put_mid start len xs ys)
      ++ layer low high half (drop (i + 1) ts)
      (drop ((i + 1) * (half + half)) (put_mid start len xs ys))
      ≡ take (i * (half + half)) xs ++ layer low high half (drop i ts) (drop (i * (half + half)) xs)
  layer-more ts xs ys t i start len h is_t e_start e_len fits long made =
      let rest = drop start xs in
      let ts' = drop (i + 1) ts in
      let first : take half (take len rest) ≡ take half rest =
      take-take half len rest (omega (arith, e_len)) in
      let second : drop half (take len rest) ≡ take half (drop half rest) =
      ap (λ n. drop half (take n rest)) e_len ∙ drop-take half half rest in
      block-more (layer low high half) (half + half) ts xs ys t i start len h is_t e_start e_len
      fits long
      (ap (λ b. b ++ layer low high half ts' (drop len rest)) made
      ∙ ap
      (λ a. (pairwise (low t) a (drop half (take len rest))
      ++ pairwise (high t) a (drop half (take len rest)))
      ++ layer low high half ts' (drop len rest)) first
      ∙ ap (λ b. (pairwise (low t) (take half rest) b ++ pairwise (high t) (take half rest) b)
      ++ layer low high half ts' (drop len rest)) second
      ∙ ap
      (λ n. (pairwise (low t) (take half rest) (take half (drop half rest))
      ++ pairwise (high t) (take half rest) (take half (drop half rest)))
      ++ layer low high half ts' (drop n rest)) e_len)
