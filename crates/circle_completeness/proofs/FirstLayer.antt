-- The first layer of a verifier's run over committed matrices: what is opened of it are the pairs
-- of the codewords of the heights, and these pairs fold to the entries of the codewords' folds.
use Rattle.std.specs.Prelude.{◌≡◌, ℕ, ◌+◌, ◌-◌, ◌/◌, ◌^◌, ◌<◌, ◌≤◌, ◌==◌, true, List, [], length}
use Rattle.std.specs.Prelude.{map, nat_lt, All, Some, slice_get, slice_index_or}
use Rattle.std.specs.List.{filter, range_with_len}
use Rattle.std.specs.Option.{option_map}
use Rattle.std.proofs.Common.{suc, refl, sym, ◌∙◌, ap, subst, arith}
use Rattle.std.proofs.Math.Nat.{pow-suc}
use Rattle.std.proofs.lemmas.Bool.{eqb-true}
use Rattle.std.proofs.lemmas.List.{length-map, get_or-map}
use Rattle.std.proofs.lemmas.List.Elements.{All-map, All-weaker, filter_passes}
use Rattle.std.proofs.lemmas.List.Folds.{Any-from_list_any}
use Rattle.std.proofs.lemmas.Option.{get_or_from_slice_get, slice_get-get_or, slice_get-map}
use Rattle.std.proofs.lemmas.Option.{slice_get_within}
use Rattle.circle_field.specs.Field.{sub}
use Rattle.circle_field.specs.Circle.{Coordinates, origin}
use Rattle.circle_point.specs.Basis.{vanishing}
use Rattle.circle_commit.specs.Mmcs.{dimensions_of, max_height, rows_at, rows_at_each}
use Rattle.circle_commit.specs.declared.matrix.RowMajorMatrix.{RowMajorMatrix}
use Rattle.circle_commit.specs.declared.params.FriParameters.{FriParameters}
use Rattle.circle_commit.proofs.ColumnSums.{map-agree}
use Rattle.circle_commit.proofs.Written.{pairwise-read}
use Rattle.circle_domain.proofs.Twiddles.{map-map}
use Rattle.circle_folding.specs.Chain.{first_layer_twiddle, pair_of}
use Rattle.circle_folding.specs.Fold.{fold_pair, fold_y_twiddles}
use Rattle.circle_folding.proofs.Places.{place-below}
use Rattle.circle_folding.proofs.Twiddles.{length-fold_y_twiddles}
use Rattle.circle_relation.specs.Sums.{reduced}
use Rattle.circle_relation.proofs.Shown.{moved}
use Rattle.circle_relation.specs.Accepts.{Authenticates, Fields, FirstLayerAuthenticates}
use Rattle.circle_relation.specs.Accepts.{HasSiblings, Run, at_queries, claimed_heights, claims_of}
use Rattle.circle_relation.specs.Accepts.{first_pair, first_value, pairs, place_of, point_among}
use Rattle.circle_relation.specs.Accepts.{top}
use Rattle.circle_relation.proofs.AtQueries.{itself-placed, same-placed, zip-placed}
use Rattle.circle_codewords.specs.Ratios.{points_of_height}
use Rattle.circle_codewords.specs.Words.{Committed, claims_at, corrected_word, lambda}
use Rattle.circle_prover.specs.Opening.{HoldsWords}
use Rattle.circle_codewords.specs.Openings.{places_of, sibling_in, siblings_at}
use Rattle.circle_prover.specs.Words.{heights_of, layer_of, top_of}
use Rattle.circle_prover.proofs.Growing.{length-pairs_of}
use Rattle.circle_prover.proofs.Held.{first-greatest}
use Rattle.circle_prover.proofs.Tops.{has_height, height-known, matrices-low, pairwise-map}
use Rattle.circle_completeness.specs.Over.{FoldsFirst, IsRunOver, ReadsRows}
use Rattle.circle_completeness.proofs.FirstPlaces.{place-there}
use Rattle.circle_completeness.proofs.FirstWords.{corrected-read, have-heights, length-corrected}
use Rattle.circle_completeness.proofs.FirstWords.{rows-are, shapes-are}
use Rattle.circle_completeness.proofs.Pairs.{pair-back_power}

-- what stands in a list of images
image-read : {A B : Type 0} (f : A → B) (xs : List A) (n : ℕ) (x : A) (d : B) →
    slice_get xs n ≡ Some x → slice_index_or (map f xs) n d ≡ f x
image-read f xs n x d at =
    get_or_from_slice_get (map f xs) n (f x) d (slice_get-map f xs n ∙ ap (option_map f) at)

module _ {F E M IC IP WC WP : Type 0} {k : Fields F E} {p : FriParameters M}
    {ms : List (Committed F E)} {r : Run F E WC IC IP WP} {bits : ℕ}
    (over : IsRunOver k p ms r bits)
    {WordCommits : List (RowMajorMatrix E) → WC → Type 0}
    {word_authenticates : Authenticates WC E WP}
    (words : HoldsWords k ms r.drawn r.proof p WordCommits word_authenticates)
    (top-same : top k p r ≡ top_of ms) (heights-same : claimed_heights k p r ≡ heights_of ms) where
  abbrev hs : List ℕ
  hs = heights_of ms

  abbrev high : ℕ
  high = top_of ms

  abbrev queries : List ℕ
  queries = r.drawn.queries

  abbrev word : ℕ → List E
  word h = corrected_word k r.drawn.alpha ms p.log_blowup h

  abbrev layer : ℕ → List (List E)
  layer h = layer_of k p.log_blowup ms r.drawn.alpha h

  abbrev kept : List (RowMajorMatrix E)
  kept = words.first_layer.kept

  -- where a query reads the codeword of a height
  abbrev place : ℕ → ℕ → ℕ
  place h q = q / 2 ^ (high - h)

  -- a height that some matrix has is not 0, and not above the greatest
  bounds : (h : ℕ) → has_height ms h ≡ true → (1 ≤ h) × (h ≤ high)
  bounds h is =
      let found = Any-from_list_any (λ (m : Committed F E). m.log_height == h) ms is in
      let same : found.1.log_height ≡ h = eqb-true found.1.log_height h found.4 in
      let here : (slice_index_or ms found.0 found.1).log_height ≡ found.1.log_height =
      ap (λ (m : Committed F E). m.log_height) found.3 in
      let tall = over.tall found.0 found.1 found.2 in
      let low = matrices-low ms found.0 found.1 found.2 in
      (omega (arith, tall, same, here), omega (arith, low, same, here))

  all-bounds : All (λ h. (1 ≤ h) × (h ≤ high)) hs
  all-bounds =
      height-known ms (λ h. (1 ≤ h) × (h ≤ high)) (λ i m lt. let tall = over.tall i m lt in
      let low = matrices-low ms i m lt in (omega (arith, tall), omega (arith, low)))

  -- it stands at its place among the heights
  at-place : (h : ℕ) → has_height ms h ≡ true → slice_get hs (place_of k p r h) ≡ Some h
  at-place h is =
      let fits = bounds h is in
      ap (λ xs. slice_get hs (length (filter (λ g. nat_lt g h) xs))) heights-same
      ∙ place-there (has_height ms) 0 (suc high) h is (omega arith) (omega (arith, fits.1))

  -- a layer has half as many rows
  long : All (λ h. length (layer h) ≡ 2 ^ (h - 1)) hs
  long = λ i d lt.
      let h = slice_index_or hs i d in
      let positive = (all-bounds i d lt).0 in
      length-pairs_of (word h) h positive
      (length-corrected k r.drawn.alpha ms p.log_blowup h positive)

  highest : max_height kept ≡ 2 ^ (high - 1)
  highest =
      first-greatest ms kept over.some
      (have-heights kept hs layer words.first_layer.committed.rows words.first_layer.committed.width
      long)

  rows-there : (q : ℕ) → rows_at kept (q / 2)
      ≡ map (λ h. slice_index_or (layer h) (place h q / 2) []) hs
  rows-there q =
      rows-are kept hs layer words.first_layer.committed.rows words.first_layer.committed.width long
      high highest all-bounds q

  -- the proof's lists are as long as they are to be
  pub lambdas-count : length r.proof.lambdas ≡ length (claimed_heights k p r)
  lambdas-count = ap length words.lambdas ∙ length-map hs (lambda k r.drawn.alpha ms p.log_blowup)
      ∙ sym (ap length heights-same)

  abbrev siblings_for : ℕ → List E
  siblings_for q = siblings_at k.extension.zero high hs q (rows_at kept (q / 2))

  siblings-are : (q : ℕ) →
      siblings_for q
      ≡ map (λ h. sibling_in
      k.extension.zero (place h q) (slice_index_or (layer h) (place h q / 2) [])) hs
  siblings-are q =
      ap (siblings_at k.extension.zero high hs q) (rows-there q)
      ∙ pairwise-map (λ h row. sibling_in k.extension.zero (place h q) row)
      (λ h. slice_index_or (layer h) (place h q / 2) []) hs

  pub first-siblings : HasSiblings k p r (length (claimed_heights k p r)) r.proof.first_layer_opened
  first-siblings =
      let opened = words.first_layer.opened in
      let Counted : List E → Type 0 = λ siblings. length siblings
      ≡ length (claimed_heights k p r) in (
        ap length opened.entries ∙ length-map queries siblings_for,
        subst (All Counted) (sym opened.entries)
            (All-map Counted siblings_for queries
            (λ i d lt.
            let q = slice_index_or queries i d in
            ap length (siblings-are q)
            ∙ length-map hs (λ h. sibling_in
            k.extension.zero (place h q) (slice_index_or (layer h) (place h q / 2) []))
            ∙ sym (ap length heights-same))),
      )

  -- at a query, the entries beside its places
  sibling-read : (j q h : ℕ) → slice_get queries j ≡ Some q → has_height ms h ≡ true →
      slice_index_or (slice_index_or r.proof.first_layer_opened.entries j []) (place_of k p r h)
      k.extension.zero
      ≡ sibling_in k.extension.zero (place h q) (slice_index_or (layer h) (place h q / 2) [])
  sibling-read j q h at is =
      let zero = k.extension.zero in
      let n = place_of k p r h in
      ap (λ es. slice_index_or (slice_index_or es j []) n zero) words.first_layer.opened.entries
      ∙ ap (λ es. slice_index_or es n zero) (image-read siblings_for queries j q [] at
      ∙ siblings-are q)
      ∙ image-read (λ h. sibling_in zero (place h q) (slice_index_or (layer h) (place h q / 2) []))
      hs n h zero (at-place h is)

  module _ (reads : ReadsRows k p ms r) where
    -- the first value at a query is the entry of the height's codeword at its place
    value-read : (j q h : ℕ) → slice_get queries j ≡ Some q → has_height ms h ≡ true →
        place h q < 2 ^ h →
        first_value k p r j q h ≡ slice_index_or (word h) (place h q) k.extension.zero
    value-read j q h at is low =
        let l = k.extension in
        let fits = bounds h is in
        let claims = claims_of k p r h j in
        let points = points_of_height k.field k.gen h in
        let x = slice_index_or points (place h q) (origin k.field) in
        let multiple = slice_index_or r.proof.lambdas (place_of k p r h) l.zero in
        let less =
        λ (m : E) (y : Coordinates F) (v : E). sub l v
        (l.mul m (k.embed (vanishing k.field (h - p.log_blowup) y))) in
        let there : point_among k p r j q h ≡ x =
        ap (λ t. slice_index_or points (q / 2 ^ (t - h)) (origin k.field)) top-same in
        let known : multiple ≡ lambda k r.drawn.alpha ms p.log_blowup h =
        ap (λ es. slice_index_or es (place_of k p r h) l.zero) words.lambdas
        ∙ image-read (lambda k r.drawn.alpha ms p.log_blowup) hs (place_of k p r h) h l.zero
        (at-place h is) in
        ap (λ y. less multiple y (reduced l k.embed r.drawn.alpha 0 y claims)) there
        ∙ ap (λ cs. less multiple x (reduced l k.embed r.drawn.alpha 0 x cs))
        (reads j q h at fits.1)
        ∙ ap (λ m. less m x (reduced l k.embed r.drawn.alpha 0 x (claims_at h ms (place h q))))
        known
        ∙ sym (corrected-read k r.drawn.alpha ms p.log_blowup h fits.0 (place h q) low)

    query-place : (j q h : ℕ) → slice_get queries j ≡ Some q → has_height ms h ≡ true →
        place h q < 2 ^ h
    query-place j q h at is =
        let below : q < 2 ^ high =
        subst (λ n. n < 2 ^ high) (get_or_from_slice_get queries j q q at)
        (over.below j q (slice_get_within queries j q at)) in
        place-below q h high (bounds h is).1 below

    -- its pair in the first layer is the row that the place falls into
    pub pair-read : (j q h : ℕ) → slice_get queries j ≡ Some q → has_height ms h ≡ true →
        first_pair k p r j q h ≡ slice_index_or (layer h) (place h q / 2) []
    pair-read j q h at is =
        let zero = k.extension.zero in
        let low = query-place j q h at is in
        let fits = bounds h is in
        let sibling = slice_index_or (slice_index_or r.proof.first_layer_opened.entries j [])
        (place_of k p r h) zero in
        ap (λ t. pair_of (q / 2 ^ (t - h)) (first_value k p r j q h) sibling) top-same
        ∙ ap (λ v. pair_of (place h q) v sibling) (value-read j q h at is low)
        ∙ ap (pair_of (place h q) (slice_index_or (word h) (place h q) zero))
        (sibling-read j q h at is)
        ∙ pair-back_power zero (word h) h (place h q) fits.0
        (length-corrected k r.drawn.alpha ms p.log_blowup h fits.0) low

    -- so the pairs authenticate
    pub first-authenticates : FirstLayerAuthenticates k p r word_authenticates
    first-authenticates =
        let committed = words.first_layer.committed in
        let opened = words.first_layer.opened in
        let claimed = claimed_heights k p r in
        let shape = λ (h : ℕ). pairs k p r (2 ^ (h - 1)) in
        let at_half = λ (q : ℕ). rows_at kept (q / 2) in
        let first = λ (j q : ℕ). map (first_pair k p r j q) claimed in
        let agree : (i d : ℕ) → i < length queries →
        at_half (slice_index_or queries i d) ≡ first (0 + i) (slice_index_or queries i d) =
        λ i d lt.
        let q = slice_index_or queries i d in
        let here : 0 + i ≡ i = omega arith in
        rows-there q
        ∙ sym (map-agree (first_pair k p r i q) (λ h. slice_index_or (layer h) (place h q / 2) [])
        hs
        (All-weaker (λ h. has_height ms h ≡ true)
        (λ h. first_pair k p r i q h ≡ slice_index_or (layer h) (place h q / 2) [])
        (λ h is. pair-read i q h (slice_get-get_or queries i d lt) is) hs
        (filter_passes (has_height ms) (range_with_len 0 (suc high)))))
        ∙ ap (map (first_pair k p r i q)) (sym heights-same)
        ∙ ap (λ n. first n q) (sym here) in
        moved word_authenticates r.proof.first_layer r.proof.first_layer_opened.proof
        (dimensions_of kept) (map shape claimed) (places_of 1 queries)
        (map (λ q. q / 2) queries)
        (rows_at_each kept (places_of 1 queries)) (at_queries k p r first)
        (shapes-are kept hs layer committed.rows committed.width long
        ∙ ap (map shape) (sym heights-same))
        refl
        (map-map (rows_at kept) (λ q. q / 2) queries ∙ itself-placed at_half 0 queries
        ∙ same-placed (λ j q. at_half q) first 0 queries agree
        ∙ sym (zip-placed first 0 queries))
        (opened.shown r.proof.first_layer committed.commits)

    -- and fold to the entries of the codewords' folds
    pub folds-first : FoldsFirst k p ms r
    folds-first j q h at is =
        let l = k.extension in
        let fits = bounds h is in
        let low = query-place j q h at is in
        let n = place h q / 2 in
        let twiddles = fold_y_twiddles k.field k.gen (h - 1) in
        let step = fold_pair l r.drawn.bivariate in
        let next : h ≡ suc (h - 1) = omega (arith, fits.0) in
        let half : n < 2 ^ (h - 1) = omega (arith, low, ap (λ i. 2 ^ i) next, pow-suc 2 (h - 1)) in
        let count : n < length twiddles =
        omega (arith, half, length-fold_y_twiddles k.field k.gen (h - 1)) in
        let rows_long : length (layer h) ≡ 2 ^ (h - 1) =
        length-pairs_of (word h) h fits.0
        (length-corrected k r.drawn.alpha ms p.log_blowup h fits.0) in
        ap (λ t. step (k.embed (first_layer_twiddle k.field k.gen h t q)) (first_pair k p r j q h))
        top-same
        ∙ ap (step (k.embed (slice_index_or twiddles n k.field.zero))) (pair-read j q h at is)
        ∙ ap (λ t. step t (slice_index_or (layer h) n []))
        (sym (get_or-map k.embed twiddles n k.field.zero (k.embed k.field.zero) count))
        ∙ sym (pairwise-read step (map k.embed twiddles) (layer h) n (k.embed k.field.zero) []
        l.zero (omega (arith, count, length-map twiddles k.embed))
        (omega (arith, half, rows_long)))
