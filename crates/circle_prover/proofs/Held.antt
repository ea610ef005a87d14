-- What an opening has committed to, as its proof holds it.
use Rattle.std.specs.Prelude.{◌≡◌, ℕ, ◌+◌, ◌-◌, ◌^◌, ◌<◌, ◌≤◌, ◌++◌, List, [], ◌∷◌, length, map}
use Rattle.std.specs.Prelude.{All, Some, slice_get, slice_index_or}
use Rattle.std.proofs.Common.{zero, suc, refl, sym, ◌∙◌, ap, subst, arith}
use Rattle.std.proofs.lemmas.List.{get_or_append_left, length-append, length-map, map-append}
use Rattle.std.proofs.Math.Seq.{get_or-append_seam}
use Rattle.std.proofs.lemmas.List.Elements.{All-map}
use Rattle.std.proofs.lemmas.Option.{same_Some, slice_get_within}
use Rattle.circle_commit.specs.Mmcs.{dimensions_of, greatest, heights, max_height}
use Rattle.circle_commit.specs.RowMajorMatrix.{height_of, length-rows, rows}
use Rattle.circle_commit.specs.declared.matrix.RowMajorMatrix.{RowMajorMatrix}
use Rattle.circle_domain.proofs.Powers.{pow_within}
use Rattle.circle_relation.specs.Accepts.{Fields}
use Rattle.circle_codewords.specs.Words.{Committed, HaveHeights}
use Rattle.circle_prover.specs.Words.{AreWordsOf, first_fold, heights_of, layer_of, round_word}
use Rattle.circle_prover.specs.Words.{top_of}
use Rattle.circle_prover.specs.declared.run.CommittedWords.{CommittedWords}
use Rattle.circle_prover.proofs.Growing.{length-pairs_of}
use Rattle.circle_prover.proofs.Lengths.{layer-lengths, length-word_at, length-y_folds}
use Rattle.circle_prover.proofs.Tops.{all-low, heights-end, lower, top-known}

rows-listed : {E : Type 0} (ms : List (RowMajorMatrix E)) → map (λ rs. length rs) (map rows ms)
    ≡ map height_of ms
rows-listed [] = refl
rows-listed (m ∷ ms) = ap (λ n. n ∷ map (λ rs. length rs) (map rows ms)) (length-rows m)
    ∙ ap (λ ns. height_of m ∷ ns) (rows-listed ms)

-- what is within a list stands there
pub slice_get_at : {A : Type 0} (xs : List A) (n : ℕ) → n < length xs →
    (x : A) × (slice_get xs n ≡ Some x)
slice_get_at [] n lt = absurd (omega arith)
slice_get_at (x ∷ xs) zero lt = (x, refl)
slice_get_at (x ∷ xs) (suc n) lt = slice_get_at xs n (omega (arith, lt))

-- what stands in a list of images is the image of what stands there
pub read-map : {A B : Type 0} (f : A → B) (xs : List A) (n : ℕ) (y : B) → slice_get (map f xs) n
    ≡ Some y → (x : A) × (slice_get xs n ≡ Some x) × (f x ≡ y)
read-map f [] n y at = absurd (omega (arith, slice_get_within [] n y at))
read-map f (x ∷ xs) zero y at = (x, refl, same_Some (f x) y at)
read-map f (x ∷ xs) (suc n) y at = read-map f xs n y at

greatest-end : (ns : List ℕ) (n : ℕ) → All (λ m. m ≤ n) ns → greatest (ns ++ n ∷ []) ≡ n
greatest-end [] n all = omega arith
greatest-end (m ∷ ns) n all =
    let rest = greatest-end ns n (λ i d lt. all (suc i) d (omega (arith, lt))) in
    let here = all 0 m (omega arith) in
    omega (arith, rest, here)

-- the heights of matrices
pub heights-listed : {E : Type 0} (ms : List (RowMajorMatrix E)) → heights (dimensions_of ms)
    ≡ map height_of ms
heights-listed [] = refl
heights-listed (m ∷ ms) = ap (λ hs. height_of m ∷ hs) (heights-listed ms)

-- the greatest of the first layer's matrices
pub first-greatest : {F E : Type 0} (ms : List (Committed F E)) (kept : List (RowMajorMatrix E)) →
    1 ≤ length ms → HaveHeights (heights_of ms) kept → max_height kept ≡ 2 ^ (top_of ms - 1)
first-greatest ms kept some shapes =
    let size : ℕ → ℕ = λ h. 2 ^ (h - 1) in
    let listed = heights-listed kept ∙ shapes.height ∙ ap (map size) (heights-end ms some)
    ∙ map-append size (lower ms) (top_of ms ∷ []) in
    let low = subst (All (λ h. h ≤ top_of ms)) (heights-end ms some) (all-low ms) in
    ap greatest listed
    ∙ greatest-end (map size (lower ms)) (size (top_of ms))
    (All-map (λ n. n ≤ size (top_of ms)) size (lower ms)
    (λ i d lt.
    let read = get_or_append_left (lower ms) (top_of ms ∷ []) d i lt in
    let at = low i d (omega (arith, lt, length-append (lower ms) (top_of ms ∷ []))) in
    pow_within (slice_index_or (lower ms) i d - 1) (top_of ms - 1) (omega (arith, read, at))))

module _ {F E Com D : Type 0} (k : Fields F E) (blowup final : ℕ)
    (Commits : List (RowMajorMatrix E) → Com → Type 0) (kept_of : D → List (RowMajorMatrix E))
    (ms : List (Committed F E))
    (w : CommittedWords F E Com D) (some : 1 ≤ length ms)
    (tall : All (λ m. blowup + final + 2 ≤ m.log_height) ms)
    (known : AreWordsOf k blowup final Commits kept_of ms w) where
  abbrev fold : ℕ → List E
  fold = first_fold k blowup ms w.draws.alpha w.draws.bivariate

  folds-long : All (λ h. length (fold h) ≡ 2 ^ (h - 1)) (heights_of ms)
  folds-long i d lt =
      let h = slice_index_or (heights_of ms) i d in
      length-y_folds k (h - 1) w.draws.bivariate (layer_of k blowup ms w.draws.alpha h)
      (layer-lengths (heights_of ms) (kept_of w.first_kept) (layer_of k blowup ms w.draws.alpha)
      known.shapes known.first_layer.rows i d lt)

  first-long : length (fold (top_of ms)) ≡ 2 ^ (top_of ms - 1)
  first-long =
      let hs = heights_of ms in
      let ends = heights-end ms some in
      let inside : length (lower ms) < length hs =
      omega (arith, ap length ends, length-append (lower ms) (top_of ms ∷ [])) in
      let last : slice_index_or hs (length (lower ms)) 0 ≡ top_of ms =
      ap (λ xs. slice_index_or xs (length (lower ms)) 0) ends
      ∙ get_or-append_seam (lower ms) (top_of ms) [] 0 in
      subst (λ h. length (fold h) ≡ 2 ^ (h - 1)) last (folds-long (length (lower ms)) 0 inside)

  abbrev word : ℕ → List E
  word = round_word k blowup ms w.draws.alpha w.draws.bivariate w.draws.betas.items

  word-long : (n : ℕ) → n ≤ top_of ms - 1 → length (word n) ≡ 2 ^ (top_of ms - 1 - n)
  word-long n within = length-word_at k (heights_of ms) fold folds-long (top_of ms - 1)
      (fold (top_of ms)) w.draws.betas.items first-long n within

  -- a round's matrix is of half as many rows of two
  pub round-shape : (n : ℕ) (d : D) → slice_get w.kept.items n ≡ Some d →
      HaveHeights ((top_of ms - 1 - n) ∷ []) (kept_of d)
  round-shape n d at =
      let within = slice_get_within w.kept.items n d at in
      let there : n < length w.commitments.items = omega (arith, within, known.rounds.count) in
      let commitment = slice_get_at w.commitments.items n there in
      let committed = known.rounds.each n d commitment.0 at commitment.1 in
      let high = top-known ms (λ h. blowup + final + 2 ≤ h) some tall in
      let low : n < top_of ms - 1 = omega (arith, there, known.count, high) in
      let long = word-long n (omega (arith, low)) in
      let pairs = length-pairs_of (word n) (top_of ms - 1 - n) (omega (arith, low)) long in
      record {
        count = sym (length-map (kept_of d) rows) ∙ ap length committed.rows;
        width = committed.width;
        height = sym (rows-listed (kept_of d)) ∙ ap (map (λ rs. length rs)) committed.rows
            ∙ ap (λ n. n ∷ []) pairs;
      }
