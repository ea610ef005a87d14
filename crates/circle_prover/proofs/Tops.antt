-- The heights of committed matrices, and the greatest of them.
use Rattle.std.specs.Prelude.{◌≡◌, ℕ, ◌+◌, ◌-◌, ◌<◌, ◌≤◌, ◌==◌, ◌||◌, max, Bool, true, false, List}
use Rattle.std.specs.Prelude.{[], ◌∷◌, ◌++◌, length, map, take, All, slice_index_or}
use Rattle.std.specs.List.{AllByRecursion, filter, list_any, range_with_len}
use Rattle.std.proofs.Common.{zero, suc, refl, sym, ◌∙◌, ap, subst, arith, cond, ⊎_elim}
use Rattle.std.proofs.Math.Seq.{take-append_seam}
use Rattle.std.proofs.lemmas.Bool.{cases_lt, eq-eqb, eqb-true, ne_eqb}
use Rattle.std.proofs.lemmas.List.{length-append, length-map, get_or-map, map-append}
use Rattle.std.proofs.lemmas.List.{append_cancel_left}
use Rattle.std.proofs.lemmas.List.Elements.{All-from_recursion}
use Rattle.std.proofs.lemmas.List.Folds.{list_any-append, list_any_at, Any-from_list_any}
use Rattle.std.proofs.lemmas.List.FromFn.{filter_of_map_range_with_len_more}
use Rattle.circle_commit.specs.Mmcs.{greatest}
use Rattle.circle_commit.specs.DotProduct.{pairwise}
use Rattle.circle_relation.specs.Accepts.{Fields}
use Rattle.circle_folding.specs.Fold.{x_folds}
use Rattle.circle_codewords.specs.Words.{Committed, next_word, pairs_of, y_folded}
use Rattle.circle_commit.specs.declared.matrix.RowMajorMatrix.{RowMajorMatrix}
use Rattle.circle_commit.specs.RowMajorMatrix.{rows}
use Rattle.circle_prover.specs.Words.{AreCommitted, AreRounds, first_fold, folded_layers}
use Rattle.circle_prover.specs.Words.{heights_of, layer_of, round_word, top_of, word_at}

-- the greatest of numbers is one of them
pub greatest-there : (ns : List ℕ) → 1 ≤ length ns → (i : ℕ) × (i < length ns)
    × (slice_index_or ns i 0 ≡ greatest ns)
greatest-there [] some = absurd (omega arith)
greatest-there (n ∷ []) some = (0, omega arith, omega arith)
greatest-there (n ∷ m ∷ ns) some =
    let rest = greatest-there (m ∷ ns) (omega arith) in
    ⊎_elim
    (λ lt. (
      suc rest.0,
      omega (arith, rest.1),
      rest.2 ∙ (let e : greatest (m ∷ ns) ≡ max n (greatest (m ∷ ns)) = omega (arith, lt) in e),
    ))
    (λ ge. (0, omega arith, (let e : n ≡ max n (greatest (m ∷ ns)) = omega (arith, ge) in e)))
    (cases_lt n (greatest (m ∷ ns)))

map-same : (xs : List ℕ) → map (λ m. m) xs ≡ xs
map-same [] = refl
map-same (x ∷ xs) = ap (λ ys. x ∷ ys) (map-same xs)

-- numbers in order, of which a test keeps some, with one more
more-range : (p : ℕ → Bool) (n : ℕ) → filter p (range_with_len 0 (n + 1))
    ≡ filter p (range_with_len 0 n) ++ cond (p n) (n ∷ []) []
more-range p n =
    ap (filter p) (sym (map-same (range_with_len 0 (n + 1))))
    ∙ filter_of_map_range_with_len_more p (λ m. m) 0 n n (omega arith)
    ∙ ap (λ xs. filter p xs ++ cond (p n) (n ∷ []) []) (map-same (range_with_len 0 n))

-- numbers are at most the greatest
below : (ns : List ℕ) (top : ℕ) → ((n : ℕ) → n ≤ greatest ns → n ≤ top) →
    AllByRecursion (λ n. n ≤ top) ns
below [] top f = tt
below (n ∷ ns) top f =
    let here : n ≤ greatest (n ∷ ns) = omega arith in (
      f n here,
      below ns top (λ m le. f m (let more : m ≤ greatest (n ∷ ns) = omega (arith, le) in more)),
    )

-- what a test keeps of numbers passes it
kept : (p : ℕ → Bool) (P : ℕ → Type 0) → ((h : ℕ) → p h ≡ true → P h) → (a n : ℕ) →
    AllByRecursion P (filter p (range_with_len a n))
kept p P f a zero = tt
kept p P f a (suc n) =
    elim (p a) as (λ b. p a ≡ b →
    AllByRecursion P
    (cond b (a ∷ filter p (range_with_len (a + 1) n)) (filter p (range_with_len (a + 1) n)))) [
      | true ↦ λ e. (f a e, kept p P f (a + 1) n)
      | false ↦ λ e. kept p P f (a + 1) n
    ] refl

-- lists of one length with one more each are the same where the longer ones are
pub same-front : {A : Type 0} (xs ys : List A) (x y : A) → length xs ≡ length ys → xs ++ x ∷ [] ≡ ys
    ++ y ∷ [] → xs ≡ ys
same-front xs ys x y count same =
    sym (take-append_seam xs (x ∷ [])) ∙ ap (take (length xs)) same
    ∙ ap (λ n. take n (ys ++ y ∷ [])) count ∙ take-append_seam ys (y ∷ [])

pub same-last : {A : Type 0} (xs ys : List A) (x y : A) → length xs ≡ length ys → xs ++ x ∷ [] ≡ ys
    ++ y ∷ [] → x ≡ y
same-last xs ys x y count same =
    let ends : x ∷ [] ≡ y ∷ [] =
    append_cancel_left ys (x ∷ []) (y ∷ [])
    (ap (λ zs. zs ++ x ∷ []) (sym (same-front xs ys x y count same)) ∙ same) in
    ap (λ zs. slice_index_or zs 0 x) ends

-- a list without its last
pub front : {A : Type 0} (xs : List A) (x : A) → take (length (xs ++ x ∷ []) - 1) (xs ++ x ∷ [])
    ≡ xs
front xs x =
    let e : length (xs ++ x ∷ []) - 1 ≡ length xs = omega (arith, length-append xs (x ∷ [])) in
    ap (λ n. take n (xs ++ x ∷ [])) e ∙ take-append_seam xs (x ∷ [])

pub front-of : {A : Type 0} (all : List A) (count : ℕ) (xs : List A) (x : A) → all ≡ xs ++ x ∷ [] →
    count ≡ length (xs ++ x ∷ []) → take (count - 1) all ≡ xs
front-of all count xs x same long = ap (λ n. take (n - 1) all) long
    ∙ ap (take (length (xs ++ x ∷ []) - 1)) same ∙ front xs x

-- folds of what stands for each height
pub pairwise-map : {A B C : Type 0} (f : A → B → C) (g : A → B) (xs : List A) →
    pairwise f xs (map g xs) ≡ map (λ x. f x (g x)) xs
pairwise-map f g [] = refl
pairwise-map f g (x ∷ xs) = ap (λ ys. f x (g x) ∷ ys) (pairwise-map f g xs)

module _ {F E : Type 0} (ms : List (Committed F E)) where
  -- whether there is a matrix of a height, and the heights below the greatest
  abbrev pub has_height : ℕ → Bool
  has_height h = list_any (λ m. m.log_height == h) ms

  abbrev pub lower : List ℕ
  lower = filter has_height (range_with_len 0 (top_of ms))

  top-there : 1 ≤ length ms → has_height (top_of ms) ≡ true
  top-there some =
      let heights = map (λ (m : Committed F E). m.log_height) ms in
      let there =
      greatest-there heights
      (omega (arith, some, length-map ms (λ (m : Committed F E). m.log_height))) in
      let within : there.0 < length ms =
      omega (arith, there.1, length-map ms (λ (m : Committed F E). m.log_height)) in
      let m = slice_index_or ms there.0 (record { log_height = 0; rows = []; claims = [] }) in
      list_any_at (λ (c : Committed F E). c.log_height == top_of ms) ms there.0 m within
      (eq-eqb (slice_index_or ms there.0 m).log_height (top_of ms)
      (sym (get_or-map (λ (c : Committed F E). c.log_height) ms there.0 m 0 within) ∙ there.2))

  pub heights-end : 1 ≤ length ms → heights_of ms ≡ lower ++ top_of ms ∷ []
  heights-end some =
      let last : suc (top_of ms) ≡ top_of ms + 1 = omega arith in
      ap (λ n. filter has_height (range_with_len 0 n)) last ∙ more-range has_height (top_of ms)
      ∙ ap (λ b. lower ++ cond b (top_of ms ∷ []) []) (top-there some)

  pub some-heights : 1 ≤ length ms → 1 ≤ length (heights_of ms)
  some-heights some = let e = ap length (heights-end some) in
      omega (arith, e, length-append lower (top_of ms ∷ []))

  -- what is known of each matrix's height is known of each height
  pub height-known : (P : ℕ → Type 0) → All (λ m. P m.log_height) ms → All P (heights_of ms)
  height-known P all =
      All-from_recursion P (heights_of ms)
      (kept has_height P
      (λ h yes.
      let found = Any-from_list_any (λ (m : Committed F E). m.log_height == h) ms yes in
      subst P (eqb-true found.1.log_height h found.4)
      (subst (λ (m : Committed F E). P m.log_height) found.3 (all found.0 found.1 found.2)))
      0 (suc (top_of ms)))

  heights-low : (ns : List ℕ) → All (λ n. n ≤ greatest ns) ns
  heights-low ns =
      All-from_recursion (λ n. n ≤ greatest ns) ns (below ns (greatest ns) (λ n le. le))

  -- no matrix is above the greatest height
  pub matrices-low : All (λ m. m.log_height ≤ top_of ms) ms
  matrices-low i m lt =
      let heights = map (λ (c : Committed F E). c.log_height) ms in
      let within : i < length heights =
      omega (arith, lt, length-map ms (λ (c : Committed F E). c.log_height)) in
      let low = heights-low heights i 0 within in
      let same : slice_index_or heights i 0 ≡ (slice_index_or ms i m).log_height =
      get_or-map (λ (c : Committed F E). c.log_height) ms i m 0 lt in
      omega (arith, low, same)

  -- no height is above the greatest
  pub all-low : All (λ h. h ≤ top_of ms) (heights_of ms)
  all-low = height-known (λ h. h ≤ top_of ms) matrices-low

  pub top-known : (P : ℕ → Type 0) → 1 ≤ length ms → All (λ m. P m.log_height) ms → P (top_of ms)
  top-known P some all =
      let heights = map (λ (m : Committed F E). m.log_height) ms in
      let there =
      greatest-there heights
      (omega (arith, some, length-map ms (λ (m : Committed F E). m.log_height))) in
      let within : there.0 < length ms =
      omega (arith, there.1, length-map ms (λ (m : Committed F E). m.log_height)) in
      let none : Committed F E = record { log_height = 0; rows = []; claims = [] } in
      subst P (sym (get_or-map (λ (c : Committed F E). c.log_height) ms there.0 none 0 within)
      ∙ there.2) (all there.0 none within)

or-nothing : (b : Bool) → (b || false) ≡ b
or-nothing true = refl
or-nothing false = refl

-- a height that none below it joins beside a further one
joins-alike : (hs : List ℕ) (top n : ℕ) → n < top → list_any (λ m. m == n) hs
    ≡ list_any (λ m. m == n) (hs ++ top ∷ [])
joins-alike hs top n lt =
    let other : (top == n) ≡ false = ne_eqb top n (λ e. omega (arith, e, lt)) in
    sym (list_any-append (λ m. m == n) hs (top ∷ [])
    ∙ ap (λ b. list_any (λ m. m == n) hs || (b || false)) other
    ∙ or-nothing (list_any (λ m. m == n) hs))

-- the codewords of the rounds are the same without the greatest height, which they don't reach
pub word-alike : {F E : Type 0} (k : Fields F E) (hs : List ℕ) (top : ℕ) (f : ℕ → List E) (h : ℕ)
    (first betas : List E) → h < top → (n : ℕ) →
    word_at k hs f h first betas n ≡ word_at k (hs ++ top ∷ []) f h first betas n
word-alike k hs top f h first betas lt zero = refl
word-alike k hs top f h first betas lt (suc n) =
    let beta = slice_index_or betas n k.extension.zero in
    let low : h - n < top = omega (arith, lt) in
    ap (next_word k hs f (h - n) beta) (word-alike k hs top f h first betas lt n)
    ∙ ap
    (λ b. cond b
    (pairwise k.extension.add
    (x_folds k.field k.gen k.extension k.embed (h - n - 1) beta
    (pairs_of (word_at k (hs ++ top ∷ []) f h first betas n))) (f (h - n)))
    (x_folds k.field k.gen k.extension k.embed (h - n - 1) beta
    (pairs_of (word_at k (hs ++ top ∷ []) f h first betas n))))
    (joins-alike hs top (h - n) low)

-- what stands for each of some numbers, the last apart
pub split-last : {A : Type 0} (f : ℕ → A) (xs : List A) (x : A) (ns : List ℕ) (n : ℕ) →
    xs ++ x ∷ [] ≡ map f (ns ++ n ∷ []) → (xs ≡ map f ns) × (x ≡ f n)
split-last f xs x ns n same =
    let apart : xs ++ x ∷ [] ≡ map f ns ++ f n ∷ [] = same ∙ map-append f ns (n ∷ []) in
    let long = ap length apart in
    let count : length xs ≡ length (map f ns) =
    omega (arith, long, length-append xs (x ∷ []), length-append (map f ns) (f n ∷ [])) in
    (same-front xs (map f ns) x (f n) count apart, same-last xs (map f ns) x (f n) count apart)

-- rounds whose codewords are the same
pub rounds-alike : {E D Com : Type 0} (Commits : List (RowMajorMatrix E) → Com → Type 0)
    (kept_of : D → List (RowMajorMatrix E)) (v w : ℕ → List E) (kept : List D)
    (commitments : List Com) →
    ((n : ℕ) → v n ≡ w n) → AreRounds Commits kept_of v kept commitments →
    AreRounds Commits kept_of w kept commitments
rounds-alike Commits kept_of v w kept commitments same rounds = record {
  count = rounds.count;
  each = λ n d commitment at_kept at_commitment.
      subst (λ word. AreCommitted Commits (pairs_of word ∷ []) (kept_of d) commitment) (same n)
      (rounds.each n d commitment at_kept at_commitment);
}

-- the codewords of the rounds, by what is at hand of the heights and of the first codeword
pub words-alike : {F E : Type 0} (k : Fields F E) (blowup : ℕ) (ms : List (Committed F E))
    (alpha bivariate : E) (hs : List ℕ) (high : ℕ) (first : List E) → 1 ≤ length ms → 1 ≤ top_of ms
    → hs ≡ lower ms → high ≡ top_of ms →
    first ≡ first_fold k blowup ms alpha bivariate (top_of ms) → (betas : List E) (n : ℕ)
    → word_at k hs (first_fold k blowup ms alpha bivariate) (high - 1) first betas n
    ≡ round_word k blowup ms alpha bivariate betas n
words-alike k blowup ms alpha bivariate hs high first some positive fewer same is betas n =
    let top = top_of ms in
    let fold = first_fold k blowup ms alpha bivariate in
    let low : top - 1 < top = omega (arith, positive) in
    ap (λ v. word_at k v fold (high - 1) first betas n) fewer
    ∙ ap (λ t. word_at k (lower ms) fold (t - 1) first betas n) same
    ∙ ap (λ w. word_at k (lower ms) fold (top - 1) w betas n) is
    ∙ word-alike k (lower ms) top fold (top - 1) (fold top) betas low n
    ∙ ap (λ v. word_at k v fold (top - 1) (fold top) betas n) (sym (heights-end ms some))

-- what is folded from the first layer's codewords
pub folds-are : {F E : Type 0} (k : Fields F E) (blowup : ℕ) (ms : List (Committed F E))
    (alpha bivariate : E) (hs : List ℕ) (layers : List (RowMajorMatrix E)) (folds : List (List E))
    → hs ≡ heights_of ms → map rows layers ≡ map (layer_of k blowup ms alpha) (heights_of ms) →
    folds ≡ folded_layers k bivariate hs layers
    → folds ≡ map (first_fold k blowup ms alpha bivariate) (heights_of ms)
folds-are k blowup ms alpha bivariate hs layers folds same are folded =
    folded ∙ ap (λ v. folded_layers k bivariate v layers) same
    ∙ ap (pairwise (y_folded k bivariate) (heights_of ms)) are
    ∙ pairwise-map (y_folded k bivariate) (layer_of k blowup ms alpha) (heights_of ms)
