-- A layer of some blocks and then others, and two layers of one block.
use Rattle.std.specs.Prelude.{◌≡◌, ℕ, ◌+◌, ◌*◌, List, [], ◌∷◌, ◌++◌, length, map, take, drop}
use Rattle.std.proofs.Common.{sym, ◌∙◌, ap, refl, arith, append_assoc, append-nil, length-append}
use Rattle.std.proofs.Common.{length-drop}
use Rattle.std.proofs.lemmas.List.{take_at, drop_at, take_all, take-append-le, drop-append-le}
use Rattle.std.proofs.lemmas.List.{length-take-le, map-append}
use Rattle.circle_commit.specs.DotProduct.{pairwise}
use Rattle.circle_commit.proofs.Written.{length-pairwise}
use Rattle.circle_domain.specs.Layers.{layer}

pub pairwise-append : {F : Type 0} (f : F → F → F) (xs ys xs' ys' : List F) →
    length xs ≡ length ys → pairwise f (xs ++ xs') (ys ++ ys') ≡ pairwise f xs ys
    ++ pairwise f xs' ys'
pairwise-append f [] [] xs' ys' e = refl
pairwise-append f [] (y ∷ ys) xs' ys' e = absurd (omega (arith, e))
pairwise-append f (x ∷ xs) [] xs' ys' e = absurd (omega (arith, e))
pairwise-append f (x ∷ xs) (y ∷ ys) xs' ys' e =
    ap (λ rest. f x y ∷ rest) (pairwise-append f xs ys xs' ys' (omega (arith, e)))

module _ {F : Type 0} (low high : F → F → F → F) (half : ℕ) where
  pub length-layer : (ts xs : List F) → length xs ≡ length ts * (half + half) →
      length (layer low high half ts xs) ≡ length xs
  length-layer [] xs e = omega (arith, e)
  length-layer (t ∷ ts) xs e =
      let n = length ts * (half + half) in
      let total : length xs ≡ (half + half) + n = e ∙ omega arith in
      let a = take half xs in
      let b = take half (drop half xs) in
      let rest = drop (half + half) xs in
      let la : length a ≡ half = length-take-le half xs (omega (arith, total)) in
      let lb : length b ≡ half =
      length-take-le half (drop half xs) (omega (arith, total, length-drop half xs)) in
      let ll : length (pairwise (low t) a b) ≡ half = length-pairwise (low t) a b (la ∙ sym lb)
      ∙ la in
      let lu : length (pairwise (high t) a b) ≡ half = length-pairwise (high t) a b (la ∙ sym lb)
      ∙ la in
      let more : length rest ≡ n = length-drop (half + half) xs ∙ omega (arith, total) in
      let lz : length (layer low high half ts rest) ≡ n = length-layer ts rest more ∙ more in
      length-append (pairwise (low t) a b ++ pairwise (high t) a b) (layer low high half ts rest)
      ∙ omega (
        arith,
        length-append (pairwise (low t) a b) (pairwise (high t) a b),
        ll,
        lu,
        lz,
        total,
      )

  -- the blocks of a list and then those of another
  pub layer-append : (ts ts' xs xs' : List F) → length xs ≡ length ts * (half + half) →
      layer low high half (ts ++ ts') (xs ++ xs') ≡ layer low high half ts xs
      ++ layer low high half ts' xs'
  layer-append [] ts' [] xs' e = refl
  layer-append [] ts' (x ∷ xs) xs' e = absurd (omega (arith, e))
  layer-append (t ∷ ts) ts' xs xs' e =
      let n = length ts * (half + half) in
      let total : length xs ≡ (half + half) + n = e ∙ omega arith in
      let a = take half xs in
      let b = take half (drop half xs) in
      let rest = drop (half + half) xs in
      let first : take half (xs ++ xs') ≡ a = take-append-le half xs xs' (omega (arith, total)) in
      let second : take half (drop half (xs ++ xs')) ≡ b =
      ap (take half) (drop-append-le half xs xs' (omega (arith, total)))
      ∙ take-append-le half (drop half xs) xs' (omega (arith, total, length-drop half xs)) in
      let after : drop (half + half) (xs ++ xs') ≡ rest ++ xs' =
      drop-append-le (half + half) xs xs' (omega (arith, total)) in
      let more : length rest ≡ n = length-drop (half + half) xs ∙ omega (arith, total) in
      let z = layer low high half (ts ++ ts') (drop (half + half) (xs ++ xs')) in
      ap
      (λ x. (pairwise (low t) x (take half (drop half (xs ++ xs')))
      ++ pairwise (high t) x (take half (drop half (xs ++ xs')))) ++ z) first
      ∙ ap (λ y. (pairwise (low t) a y ++ pairwise (high t) a y) ++ z) second
      ∙ ap (λ r. (pairwise (low t) a b ++ pairwise (high t) a b) ++ r)
      (ap (layer low high half (ts ++ ts')) after ∙ layer-append ts ts' rest xs' more)
      ∙ sym
      (append_assoc (pairwise (low t) a b ++ pairwise (high t) a b)
      (layer low high half ts rest) (layer low high half ts' xs'))

  -- a block alone, of two halves
  pub layer-one : (t : F) (xs ys : List F) → length xs ≡ half → length ys ≡ half →
      layer low high half (t ∷ []) (xs ++ ys) ≡ pairwise (low t) xs ys ++ pairwise (high t) xs ys
  layer-one t xs ys ex ey =
      let first : take half (xs ++ ys) ≡ xs = take_at xs ys half ex in
      let second : take half (drop half (xs ++ ys)) ≡ ys = ap (take half) (drop_at xs ys half ex)
      ∙ take_all half ys (omega (arith, ey)) in
      ap
      (λ x. (pairwise (low t) x (take half (drop half (xs ++ ys)))
      ++ pairwise (high t) x (take half (drop half (xs ++ ys)))) ++ []) first
      ∙ ap (λ y. (pairwise (low t) xs y ++ pairwise (high t) xs y) ++ []) second
      ∙ append-nil (pairwise (low t) xs ys ++ pairwise (high t) xs ys)

  -- two blocks, of two halves each
  pub layer-two : (u v : F) (xs ys zs ws : List F) → length xs ≡ half → length ys ≡ half →
      length zs ≡ half → length ws ≡ half →
      layer low high half (u ∷ v ∷ []) ((xs ++ ys) ++ (zs ++ ws))
      ≡ (pairwise (low u) xs ys ++ pairwise (high u) xs ys)
      ++ (pairwise (low v) zs ws ++ pairwise (high v) zs ws)
  layer-two u v xs ys zs ws ex ey ez ew =
      layer-append (u ∷ []) (v ∷ []) (xs ++ ys) (zs ++ ws)
      (length-append xs ys ∙ omega (arith, ex, ey))
      ∙ ap (λ x. x ++ layer low high half (v ∷ []) (zs ++ ws)) (layer-one u xs ys ex ey)
      ∙ ap (λ x. (pairwise (low u) xs ys ++ pairwise (high u) xs ys) ++ x) (layer-one v zs ws ez ew)

module _ {F : Type 0} (low high : F → F → F → F) (quarter : ℕ) (t u v : F) (a b c d : List F)
    (ea : length a ≡ quarter) (eb : length b ≡ quarter) (ec : length c ≡ quarter)
    (ed : length d ≡ quarter) where
  -- a block by its quarters, the upper layer first
  pub descend-quarters : layer low high quarter (u ∷ v ∷ [])
      (layer low high (quarter + quarter) (t ∷ []) ((a ++ b) ++ (c ++ d)))
      ≡ (pairwise (low u) (pairwise (low t) a c) (pairwise (low t) b d)
      ++ pairwise (high u) (pairwise (low t) a c) (pairwise (low t) b d))
      ++ (pairwise (low v) (pairwise (high t) a c) (pairwise (high t) b d)
      ++ pairwise (high v) (pairwise (high t) a c) (pairwise (high t) b d))
  descend-quarters =
      let whole : layer low high (quarter + quarter) (t ∷ []) ((a ++ b) ++ (c ++ d)) ≡
      (pairwise (low t) a c ++ pairwise (low t) b d) ++
      (pairwise (high t) a c ++ pairwise (high t) b d) =
      layer-one low high (quarter + quarter) t (a ++ b) (c ++ d)
      (length-append a b ∙ omega (arith, ea, eb)) (length-append c d ∙ omega (arith, ec, ed))
      ∙ ap (λ x. x ++ pairwise (high t) (a ++ b) (c ++ d))
      (pairwise-append (low t) a c b d (ea ∙ sym ec))
      ∙ ap (λ x. (pairwise (low t) a c ++ pairwise (low t) b d) ++ x)
      (pairwise-append (high t) a c b d (ea ∙ sym ec)) in
      ap (layer low high quarter (u ∷ v ∷ [])) whole
      ∙ layer-two low high quarter u v (pairwise (low t) a c) (pairwise (low t) b d)
      (pairwise (high t) a c) (pairwise (high t) b d)
      (length-pairwise (low t) a c (ea ∙ sym ec) ∙ ea) (length-pairwise (low t) b d (eb ∙ sym ed)
      ∙ eb)
      (length-pairwise (high t) a c (ea ∙ sym ec) ∙ ea) (length-pairwise (high t) b d (eb ∙ sym ed)
      ∙ eb)

  -- and the lower layer first
  pub ascend-quarters : layer low high (quarter + quarter) (t ∷ [])
      (layer low high quarter (u ∷ v ∷ []) ((a ++ b) ++ (c ++ d)))
      ≡ (pairwise (low t) (pairwise (low u) a b) (pairwise (low v) c d)
      ++ pairwise (low t) (pairwise (high u) a b) (pairwise (high v) c d))
      ++ (pairwise (high t) (pairwise (low u) a b) (pairwise (low v) c d)
      ++ pairwise (high t) (pairwise (high u) a b) (pairwise (high v) c d))
  ascend-quarters =
      let x = pairwise (low u) a b in
      let y = pairwise (high u) a b in
      let z = pairwise (low v) c d in
      let w = pairwise (high v) c d in
      let ex : length x ≡ quarter = length-pairwise (low u) a b (ea ∙ sym eb) ∙ ea in
      let ey : length y ≡ quarter = length-pairwise (high u) a b (ea ∙ sym eb) ∙ ea in
      let ez : length z ≡ quarter = length-pairwise (low v) c d (ec ∙ sym ed) ∙ ec in
      let ew : length w ≡ quarter = length-pairwise (high v) c d (ec ∙ sym ed) ∙ ec in
      ap (layer low high (quarter + quarter) (t ∷ []))
      (layer-two low high quarter u v a b c d ea eb ec ed)
      ∙ layer-one low high (quarter + quarter) t (x ++ y) (z ++ w)
      (length-append x y ∙ omega (arith, ex, ey)) (length-append z w ∙ omega (arith, ez, ew))
      ∙ ap (λ p. p ++ pairwise (high t) (x ++ y) (z ++ w))
      (pairwise-append (low t) x z y w (ex ∙ sym ez))
      ∙ ap (λ p. (pairwise (low t) x z ++ pairwise (low t) y w) ++ p)
      (pairwise-append (high t) x z y w (ex ∙ sym ez))

map-pairwise : {F : Type 0} (h : F → F) (f : F → F → F) (xs ys : List F) → map h (pairwise f xs ys)
    ≡ pairwise (λ x y. h (f x y)) xs ys
map-pairwise h f [] ys = refl
map-pairwise h f (x ∷ xs) [] = refl
map-pairwise h f (x ∷ xs) (y ∷ ys) = ap (λ rest. h (f x y) ∷ rest) (map-pairwise h f xs ys)

map-four : {F : Type 0} (h : F → F) (a b c d : List F) → map h ((a ++ b) ++ (c ++ d))
    ≡ (map h a ++ map h b) ++ (map h c ++ map h d)
map-four h a b c d =
    map-append h (a ++ b) (c ++ d) ∙ ap (λ x. x ++ map h (c ++ d)) (map-append h a b)
    ∙ ap (λ x. (map h a ++ map h b) ++ x) (map-append h c d)

-- four parts that are each known
four-same : {F : Type 0} (a' b' c' d' a b c d : List F) → a' ≡ a → b' ≡ b → c' ≡ c → d' ≡ d →
    (a' ++ b') ++ (c' ++ d') ≡ (a ++ b) ++ (c ++ d)
four-same a' b' c' d' a b c d ea eb ec ed =
    ap (λ x. (x ++ b') ++ (c' ++ d')) ea ∙ ap (λ x. (a ++ x) ++ (c' ++ d')) eb
    ∙ ap (λ x. (a ++ b) ++ (x ++ d')) ec ∙ ap (λ x. (a ++ b) ++ (c ++ x)) ed

module _ {F : Type 0} (low high : F → F → F → F) (quarter : ℕ) (t u v : F)
    (block front back a b c d a' b' c' d' : List F)
    (ea : length a ≡ quarter) (eb : length b ≡ quarter) (ec : length c ≡ quarter)
    (ed : length d ≡ quarter)
    (halves : block ≡ front ++ back) (front_is : front ≡ a ++ b) (back_is : back ≡ c ++ d) where
  whole : block ≡ (a ++ b) ++ (c ++ d)
  whole = halves ∙ ap (λ x. x ++ back) front_is ∙ ap (λ x. (a ++ b) ++ x) back_is

  -- a block whose quarters were made anew, the upper layer first
  pub descend-block : a' ≡ pairwise (low u) (pairwise (low t) a c) (pairwise (low t) b d) →
      b' ≡ pairwise (high u) (pairwise (low t) a c) (pairwise (low t) b d) →
      c' ≡ pairwise (low v) (pairwise (high t) a c) (pairwise (high t) b d) →
      d' ≡ pairwise (high v) (pairwise (high t) a c) (pairwise (high t) b d) →
      (a' ++ b') ++ (c' ++ d')
      ≡ layer low high quarter (u ∷ v ∷ []) (layer low high (quarter + quarter) (t ∷ []) block)
  descend-block ea' eb' ec' ed' =
      four-same a' b' c' d' _ _ _ _ ea' eb' ec' ed'
      ∙ sym (descend-quarters low high quarter t u v a b c d ea eb ec ed)
      ∙ ap
      (λ xs. layer low high quarter (u ∷ v ∷ [])
      (layer low high (quarter + quarter) (t ∷ []) xs)) (sym whole)

  -- and the lower layer first, where each entry is finished
  pub ascend-block : (finish : F → F) →
      a' ≡ pairwise (λ x y. finish (low t x y)) (pairwise (low u) a b) (pairwise (low v) c d) →
      b' ≡ pairwise (λ x y. finish (low t x y)) (pairwise (high u) a b) (pairwise (high v) c d) →
      c' ≡ pairwise (λ x y. finish (high t x y)) (pairwise (low u) a b) (pairwise (low v) c d) →
      d' ≡ pairwise (λ x y. finish (high t x y)) (pairwise (high u) a b) (pairwise (high v) c d) →
      (a' ++ b') ++ (c' ++ d')
      ≡ map finish
      (layer low high (quarter + quarter) (t ∷ []) (layer low high quarter (u ∷ v ∷ []) block))
  ascend-block finish ea' eb' ec' ed' =
      let x = pairwise (low u) a b in
      let y = pairwise (high u) a b in
      let z = pairwise (low v) c d in
      let w = pairwise (high v) c d in
      four-same a' b' c' d' (map finish (pairwise (low t) x z)) (map finish (pairwise (low t) y w))
      (map finish (pairwise (high t) x z)) (map finish (pairwise (high t) y w))
      (ea' ∙ sym (map-pairwise finish (low t) x z)) (eb' ∙ sym (map-pairwise finish (low t) y w))
      (ec' ∙ sym (map-pairwise finish (high t) x z))
      (ed' ∙ sym (map-pairwise finish (high t) y w))
      ∙ sym (map-four finish (pairwise (low t) x z) (pairwise (low t) y w) (pairwise (high t) x z)
      (pairwise (high t) y w))
      ∙ ap (map finish) (sym (ascend-quarters low high quarter t u v a b c d ea eb ec ed)
      ∙ ap
      (λ xs. layer low high (quarter + quarter) (t ∷ [])
      (layer low high quarter (u ∷ v ∷ []) xs)) (sym whole))
