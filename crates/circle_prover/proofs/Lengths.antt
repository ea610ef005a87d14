-- The lengths of an opening's codewords.
use Rattle.std.specs.Prelude.{◌≡◌, ℕ, ◌-◌, ◌==◌, ◌^◌, ◌≤◌, Bool, true, false, if◌then◌else◌, List}
use Rattle.std.specs.Prelude.{[], ◌∷◌, length, map, drop, All, slice_index_or}
use Rattle.std.specs.List.{AllByRecursion, list_any}
use Rattle.std.proofs.Common.{zero, suc, refl, sym, ◌∙◌, ap, subst, arith}
use Rattle.std.proofs.lemmas.Bool.{eqb-true}
use Rattle.std.proofs.lemmas.List.{length-map}
use Rattle.std.proofs.lemmas.List.Elements.{All-from_recursion}
use Rattle.std.proofs.lemmas.List.Folds.{Any-from_list_any}
use Rattle.circle_commit.specs.RowMajorMatrix.{height_of, length-rows, rows}
use Rattle.circle_commit.specs.declared.matrix.RowMajorMatrix.{RowMajorMatrix}
use Rattle.circle_commit.proofs.Written.{length-pairwise}
use Rattle.circle_commit.specs.DotProduct.{pairwise}
use Rattle.circle_folding.specs.Fold.{fold_pair, fold_x_twiddles, fold_y_twiddles, x_folds, y_folds}
use Rattle.circle_folding.proofs.Twiddles.{length-fold_x_twiddles, length-fold_y_twiddles}
use Rattle.circle_relation.specs.Accepts.{Fields}
use Rattle.circle_codewords.specs.Words.{HaveHeights, next_word, pairs_of}
use Rattle.circle_prover.specs.Words.{word_at}
use Rattle.circle_prover.proofs.Growing.{length-pairs_of}

heads-same : {A : Type 0} (f g : A → ℕ) (xs : List A) → map f xs ≡ map g xs →
    AllByRecursion (λ x. f x ≡ g x) xs
heads-same f g [] same = tt
heads-same f g (x ∷ xs) same =
    (ap (λ ns. slice_index_or ns 0 0) same, heads-same f g xs (ap (drop 1) same))

rows-heights : {E : Type 0} (ms : List (RowMajorMatrix E)) → map (λ rs. length rs) (map rows ms)
    ≡ map height_of ms
rows-heights [] = refl
rows-heights (m ∷ ms) = ap (λ n. n ∷ map (λ rs. length rs) (map rows ms)) (length-rows m)
    ∙ ap (λ ns. height_of m ∷ ns) (rows-heights ms)

map-twice : {A B C : Type 0} (f : B → C) (g : A → B) (xs : List A) → map f (map g xs)
    ≡ map (λ x. f (g x)) xs
map-twice f g [] = refl
map-twice f g (x ∷ xs) = ap (λ ys. f (g x) ∷ ys) (map-twice f g xs)

-- the layers of some heights have half as many rows
pub layer-lengths : {E : Type 0} (hs : List ℕ) (kept : List (RowMajorMatrix E))
    (layer : ℕ → List (List E)) → HaveHeights hs kept → map rows kept ≡ map layer hs →
    All (λ h. length (layer h) ≡ 2 ^ (h - 1)) hs
layer-lengths hs kept layer shapes are =
    All-from_recursion (λ h. length (layer h) ≡ 2 ^ (h - 1)) hs
    (heads-same (λ h. length (layer h)) (λ h. 2 ^ (h - 1)) hs
    (sym (map-twice (λ rs. length rs) layer hs) ∙ ap (map (λ rs. length rs)) (sym are)
    ∙ rows-heights kept ∙ shapes.height))

-- what holds of all of some numbers holds of one that is among them
pub among : (P : ℕ → Type 0) (hs : List ℕ) (h : ℕ) → All P hs → list_any (λ n. n == h) hs ≡ true →
    P h
among P hs h all is =
    let found = Any-from_list_any (λ n. n == h) hs is in
    subst P (eqb-true found.1 h found.4) (subst P found.3 (all found.0 found.1 found.2))

module _ {F E : Type 0} (k : Fields F E) where
  -- the fold of rows
  pub length-y_folds : (m : ℕ) (beta : E) (rs : List (List E)) → length rs ≡ 2 ^ m →
      length (y_folds k.field k.gen k.extension k.embed m beta rs) ≡ 2 ^ m
  length-y_folds m beta rs long =
      let ts = map k.embed (fold_y_twiddles k.field k.gen m) in
      let of_ts : length ts ≡ 2 ^ m = length-map (fold_y_twiddles k.field k.gen m) k.embed
      ∙ length-fold_y_twiddles k.field k.gen m in
      length-pairwise (fold_pair k.extension beta) ts rs (of_ts ∙ sym long) ∙ of_ts

  length-x_folds : (m : ℕ) (beta : E) (rs : List (List E)) → length rs ≡ 2 ^ m →
      length (x_folds k.field k.gen k.extension k.embed m beta rs) ≡ 2 ^ m
  length-x_folds m beta rs long =
      let ts = map k.embed (fold_x_twiddles k.field k.gen m) in
      let of_ts : length ts ≡ 2 ^ m = length-map (fold_x_twiddles k.field k.gen m) k.embed
      ∙ length-fold_x_twiddles k.field k.gen m in
      length-pairwise (fold_pair k.extension beta) ts rs (of_ts ∙ sym long) ∙ of_ts

  joined-length : (b : Bool) (n : ℕ) (word other : List E) → length word ≡ n →
      (b ≡ true → length other ≡ n) →
      length (if b then pairwise k.extension.add word other else word) ≡ n
  joined-length true n word other long same =
      length-pairwise k.extension.add word other (long ∙ sym (same refl)) ∙ long
  joined-length false n word other long same = long

  module _ (hs : List ℕ) (f : ℕ → List E) (joins : All (λ h. length (f h) ≡ 2 ^ (h - 1)) hs) where
    next-length : (h : ℕ) (beta : E) (word : List E) → 1 ≤ h → length word ≡ 2 ^ h →
        length (next_word k hs f h beta word) ≡ 2 ^ (h - 1)
    next-length h beta word positive long =
        joined-length (list_any (λ n. n == h) hs) (2 ^ (h - 1))
        (x_folds k.field k.gen k.extension k.embed (h - 1) beta (pairs_of word)) (f h)
        (length-x_folds (h - 1) beta (pairs_of word) (length-pairs_of word h positive long))
        (among (λ h. length (f h) ≡ 2 ^ (h - 1)) hs h joins)

    -- a codeword of the rounds
    pub length-word_at : (h : ℕ) (first betas : List E) → length first ≡ 2 ^ h → (n : ℕ) → n ≤ h →
        length (word_at k hs f h first betas n) ≡ 2 ^ (h - n)
    length-word_at h first betas long zero within = let e : h ≡ h - 0 = omega arith in
        long ∙ ap (λ m. 2 ^ m) e
    length-word_at h first betas long (suc n) within =
        let before = length-word_at h first betas long n (omega (arith, within)) in
        let less : h - n - 1 ≡ h - suc n = omega arith in
        next-length (h - n) (slice_index_or betas n k.extension.zero)
        (word_at k hs f h first betas n) (omega (arith, within)) before ∙ ap (λ m. 2 ^ m) less
