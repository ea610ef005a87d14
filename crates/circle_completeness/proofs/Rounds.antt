-- The rounds of an opening, as a verifier sees them: at each query the value that a round is left
-- with is the entry of the round's codeword, so what it is shown of a round authenticates, and the
-- last value is the final polynomial's.
use Rattle.std.specs.Prelude.{◌≡◌, ℕ, ◌+◌, ◌-◌, ◌/◌, ◌^◌, ◌<◌, ◌≤◌, ◌==◌, Bool, true, if◌then◌else◌}
use Rattle.std.specs.Prelude.{List, [], ◌∷◌, length, All, Some, slice_get, slice_index_or}
use Rattle.std.specs.List.{list_any}
use Rattle.std.proofs.Common.{zero, suc, refl, sym, ◌∙◌, ap, subst, arith}
use Rattle.std.proofs.lemmas.Bool.{eq-eqb}
use Rattle.std.proofs.lemmas.List.{length-map, get_or-map}
use Rattle.std.proofs.lemmas.List.Elements.{All-map}
use Rattle.std.proofs.lemmas.List.Folds.{list_any_at}
use Rattle.std.proofs.lemmas.Nat.{shr-shr}
use Rattle.std.proofs.lemmas.Option.{get_or_from_slice_get, slice_get-get_or, slice_get_within}
use Rattle.circle_field.specs.Field.{RingLaws}
use Rattle.circle_field.specs.Circle.{Coordinates, origin}
use Rattle.circle_commit.specs.Mmcs.{dimensions_of, rows_at, rows_at_each}
use Rattle.circle_commit.specs.RowMajorMatrix.{height_of, length-rows, rows, width_of}
use Rattle.circle_commit.specs.declared.matrix.Dimensions.{Dimensions}
use Rattle.circle_commit.specs.declared.matrix.RowMajorMatrix.{RowMajorMatrix}
use Rattle.circle_commit.specs.declared.params.FriParameters.{FriParameters}
use Rattle.circle_domain.specs.Order.{coset}
use Rattle.circle_domain.proofs.Twiddles.{length-coset, map-map}
use Rattle.circle_point.specs.Basis.{x_value}
use Rattle.circle_folding.specs.Chain.{pair_of, round_twiddle}
use Rattle.circle_folding.specs.Fold.{fold_pair, fold_x_twiddles, x_folds}
use Rattle.circle_folding.proofs.Places.{place-below}
use Rattle.circle_relation.specs.Statement.{Opened}
use Rattle.circle_relation.specs.Accepts.{Authenticates, Fields, Run, AreCanonical, ChainsEnd}
use Rattle.circle_relation.specs.Accepts.{HasRounds, HasSiblings, RoundAuthenticates}
use Rattle.circle_relation.specs.Accepts.{RoundsAuthenticate, at_queries, folded, is_claimed}
use Rattle.circle_relation.specs.Accepts.{joining, pairs, round_pair, round_value, rounds}
use Rattle.circle_relation.specs.Accepts.{sibling_in as sibling_of, top}
use Rattle.circle_relation.proofs.AtQueries.{itself-placed, same-placed, zip-placed}
use Rattle.circle_relation.proofs.Ends.{all-end}
use Rattle.circle_codewords.specs.Words.{Committed, pairs_of}
use Rattle.circle_prover.specs.Opening.{AreOpenedWords, HoldsWords, drawn_word}
use Rattle.circle_codewords.specs.Openings.{places_of, sibling_in, siblings_at}
use Rattle.circle_prover.specs.Words.{first_fold, heights_of, top_of}
use Rattle.circle_prover.proofs.Growing.{length-pairs_of}
use Rattle.circle_prover.proofs.Tops.{height-known, top-known}
use Rattle.circle_completeness.specs.Over.{FoldsFirst, IsRunOver}
use Rattle.circle_completeness.proofs.Pairs.{pair-back_power}
use Rattle.circle_completeness.proofs.RoundLists.{among-kept, entry, in-first, in-second}
use Rattle.circle_completeness.proofs.RoundLists.{numbered-read, one-row, only, same-where}
use Rattle.circle_completeness.proofs.RoundWords.{first_fold-length, joined-read, length-x_folds}
use Rattle.circle_completeness.proofs.RoundWords.{round_word-length, x_folds-read}

module _ {F E M IC IP WC WP : Type 0} (k : Fields F E) (p : FriParameters M)
    (ms : List (Committed F E)) (r : Run F E WC IC IP WP) (top-same : top k p r ≡ top_of ms)
    {bits : ℕ} (over : IsRunOver k p ms r bits)
    {WordCommits : List (RowMajorMatrix E) → WC → Type 0}
    {word_authenticates : Authenticates WC E WP}
    (words : HoldsWords k ms r.drawn r.proof p WordCommits word_authenticates) where
  abbrev zero_of : E
  zero_of = k.extension.zero

  abbrev queries : List ℕ
  queries = r.drawn.queries

  abbrev word : ℕ → List E
  word n = drawn_word k ms r.drawn r.proof p.log_blowup n

  -- the greatest height leaves something to fold, and so does each
  tall : p.log_blowup + p.log_final_poly_len + 2 ≤ top_of ms
  tall = top-known ms (λ h. p.log_blowup + p.log_final_poly_len + 2 ≤ h) over.some over.tall

  positive : All (λ h. 1 ≤ h) (heights_of ms)
  positive =
      height-known ms (λ h. 1 ≤ h) (λ i m lt. let here = over.tall i m lt in omega (arith, here))

  top-there : list_any (λ m. m.log_height == top_of ms) ms ≡ true
  top-there =
      top-known ms (λ h. list_any (λ m. m.log_height == h) ms ≡ true) over.some
      (λ i m lt. list_any_at (λ c. c.log_height == (slice_index_or ms i m).log_height) ms i m lt
      (eq-eqb (slice_index_or ms i m).log_height (slice_index_or ms i m).log_height refl))

  -- the number of rounds
  count : rounds k p r ≡ length r.proof.commitments
  count = ap (λ t. t - 1 - p.log_blowup - p.log_final_poly_len) top-same ∙ sym words.count

  few : length r.proof.commitments + p.log_blowup + p.log_final_poly_len + 1 ≡ top_of ms
  few = omega (arith, words.count, tall)

  -- a query is below the greatest height, and its place in a codeword is one of the codeword's
  below : (j q : ℕ) → slice_get queries j ≡ Some q → q < 2 ^ top_of ms
  below j q at_q = subst (λ i. i < 2 ^ top_of ms) (get_or_from_slice_get queries j q q at_q)
      (over.below j q (slice_get_within queries j q at_q))

  place-in : (n q : ℕ) → n + 1 ≤ top_of ms → q < 2 ^ top_of ms →
      q / 2 ^ (n + 1) < 2 ^ (top_of ms - 1 - n)
  place-in n q within lt =
      let cut : top_of ms - (top_of ms - 1 - n) ≡ n + 1 = omega (arith, within) in
      subst (λ b. q / 2 ^ b < 2 ^ (top_of ms - 1 - n)) cut
      (place-below q (top_of ms - 1 - n) (top_of ms) (omega arith) lt)

  next-place : (n q : ℕ) → q / 2 ^ (n + 1) / 2 ≡ q / 2 ^ (n + 2)
  next-place n q = let e : n + 1 + 1 ≡ n + 2 = omega arith in shr-shr q (n + 1) 1
      ∙ ap (λ b. q / 2 ^ b) e

  word-length : (n : ℕ) → n + 1 ≤ top_of ms → length (word n) ≡ 2 ^ (top_of ms - 1 - n)
  word-length n within = round_word-length k p.log_blowup ms r.drawn.alpha r.drawn.bivariate
      r.drawn.betas (omega (arith, within)) positive n (omega (arith, within))

  -- what is opened of a round's codeword
  module _ (n : ℕ) (commitment : WC) (o : Opened (List E) WP) (lt : n < length r.proof.commitments)
      (at_commitment : slice_get r.proof.commitments n ≡ Some commitment)
      (at_o : slice_get r.proof.rounds_opened n ≡ Some o) where
    abbrev height : ℕ
    height = top_of ms - 1 - n

    abbrev pairs_here : List (List E)
    pairs_here = pairs_of (word n)

    opens : AreOpenedWords WordCommits word_authenticates zero_of (top_of ms) (n + 2) queries
        (height ∷ []) (pairs_here ∷ []) commitment o
    opens = words.rounds n commitment o at_commitment at_o

    high : n + 3 ≤ top_of ms
    high = let some = over.blowup in omega (arith, lt, few, some)

    -- one matrix of its pairs
    one : (m : RowMajorMatrix E) × (opens.kept ≡ m ∷ []) × (rows m ≡ pairs_here)
    one = only rows opens.kept pairs_here opens.committed.rows

    matrix-height : height_of one.0 ≡ 2 ^ (top_of ms - 2 - n)
    matrix-height =
        let less : height - 1 ≡ top_of ms - 2 - n = omega arith in
        sym (length-rows one.0) ∙ ap length one.2
        ∙ length-pairs_of (word n) height (omega (arith, high))
        (word-length n (omega (arith, high))) ∙ ap (λ b. 2 ^ b) less

    matrix-width : width_of one.0 ≡ 2
    matrix-width = subst (All (λ m. width_of m ≡ 2)) one.1 opens.committed.width 0 one.0
        (omega arith)

    shapes-here : dimensions_of opens.kept ≡ pairs k p r (2 ^ (top k p r - 2 - n)) ∷ []
    shapes-here =
        let shape : ℕ → ℕ → List Dimensions = λ w h. record { width = w; height = h } ∷ [] in
        ap dimensions_of one.1 ∙ ap (λ w. shape w (height_of one.0)) matrix-width
        ∙ ap (shape 2) (matrix-height ∙ ap (λ t. 2 ^ (t - 2 - n)) (sym top-same))

    rows-here : (i : ℕ) → rows_at opens.kept i ≡ slice_index_or pairs_here i [] ∷ []
    rows-here i = ap (λ kept. rows_at kept i) one.1
        ∙ one-row one.0 (top_of ms - 2 - n) i matrix-height
        ∙ ap (λ pairs. slice_index_or pairs i [] ∷ []) one.2

    -- one sibling at each query
    siblings-here : (q : ℕ) →
        siblings_at zero_of (top_of ms) (height ∷ []) q (rows_at opens.kept (q / 2 ^ (n + 2)))
        ≡ sibling_in
        zero_of (q / 2 ^ (top_of ms - height)) (slice_index_or pairs_here (q / 2 ^ (n + 2)) []) ∷ []
    siblings-here q =
        ap (siblings_at zero_of (top_of ms) (height ∷ []) q) (rows-here (q / 2 ^ (n + 2)))

    one-sibling : HasSiblings k p r 1 o
    one-sibling =
        let at_query : ℕ → List E =
        λ q. siblings_at zero_of (top_of ms) (height ∷ []) q
        (rows_at opens.kept (q / 2 ^ (n + 2))) in (
          ap length opens.opened.entries ∙ length-map queries at_query,
          subst (All (λ siblings. length siblings ≡ 1)) (sym opens.opened.entries)
              (All-map (λ siblings. length siblings ≡ 1) at_query queries
              (λ j q within. ap length (siblings-here (slice_index_or queries j q)))),
        )

    sibling-here : (j q : ℕ) → slice_get queries j ≡ Some q → sibling_of k p r j q n ≡ sibling_in
        zero_of (q / 2 ^ (n + 1)) (slice_index_or pairs_here (q / 2 ^ (n + 1) / 2) [])
    sibling-here j q at_q =
        let at_query : ℕ → List E =
        λ q. siblings_at zero_of (top_of ms) (height ∷ []) q
        (rows_at opens.kept (q / 2 ^ (n + 2))) in
        let entries : Opened (List E) WP → List (List E) = λ x. x.entries in
        let cut : top_of ms - height ≡ n + 1 = omega (arith, high) in
        ap (λ siblings. slice_index_or (slice_index_or siblings j []) 0 zero_of)
        (get_or-map entries r.proof.rounds_opened n o [] (slice_get_within
        r.proof.rounds_opened n o at_o)
        ∙ ap entries (get_or_from_slice_get r.proof.rounds_opened n o o at_o)
        ∙ opens.opened.entries)
        ∙ ap (λ siblings. slice_index_or siblings 0 zero_of)
        (get_or-map at_query queries j q [] (slice_get_within queries j q at_q)
        ∙ ap at_query (get_or_from_slice_get queries j q q at_q) ∙ siblings-here q)
        ∙ ap (λ b. sibling_in zero_of (q / 2 ^ b) (slice_index_or pairs_here (q / 2 ^ (n + 2)) []))
        cut
        ∙ ap (λ i. sibling_in zero_of (q / 2 ^ (n + 1)) (slice_index_or pairs_here i []))
        (sym (next-place n q))

    -- where the value is the codeword's entry, the pair is the codeword's
    pair-here : (j q : ℕ) → slice_get queries j ≡ Some q → round_value k p r j q n
        ≡ slice_index_or (word n) (q / 2 ^ (n + 1)) zero_of →
        round_pair k p r j q n ≡ slice_index_or pairs_here (q / 2 ^ (n + 2)) []
    pair-here j q at_q value =
        let i = q / 2 ^ (n + 1) in
        ap (λ v. pair_of i v (sibling_of k p r j q n)) value
        ∙ ap (pair_of i (slice_index_or (word n) i zero_of)) (sibling-here j q at_q)
        ∙ pair-back_power zero_of (word n) height i (omega (arith, high))
        (word-length n (omega (arith, high)))
        (place-in n q (omega (arith, high)) (below j q at_q))
        ∙ ap (λ place. slice_index_or pairs_here place []) (next-place n q)

    -- what is shown of the round is what a verifier requires
    round-here : ((j q : ℕ) → slice_get queries j ≡ Some q → round_value k p r j q n
        ≡ slice_index_or (word n) (q / 2 ^ (n + 1)) zero_of) →
        RoundAuthenticates k p r word_authenticates (n, (commitment, o))
    round-here values =
        let places = places_of (n + 2) queries in
        let asked : ℕ → ℕ → List (List E) = λ j q. round_pair k p r j q n ∷ [] in
        let same-rows : rows_at_each opens.kept places ≡ at_queries k p r asked =
        map-map (rows_at opens.kept) (λ q. q / 2 ^ (n + 2)) queries
        ∙ itself-placed (λ q. rows_at opens.kept (q / 2 ^ (n + 2))) 0 queries
        ∙ same-placed (λ j q. rows_at opens.kept (q / 2 ^ (n + 2))) asked 0 queries (λ i d within.
        let q = slice_index_or queries i d in
        let own : 0 + i ≡ i = omega arith in
        let at_q = slice_get-get_or queries i d within in
        rows-here (q / 2 ^ (n + 2))
        ∙ ap (λ pair. pair ∷ []) (sym (pair-here i q at_q (values i q at_q)))
        ∙ ap (λ j. asked j q) (sym own))
        ∙ sym (zip-placed asked 0 queries) in
        subst (λ all. word_authenticates commitment (pairs k p r (2 ^ (top k p r - 2 - n)) ∷ [])
        places all o.proof) same-rows
        (subst
        (λ shapes. word_authenticates commitment shapes places (rows_at_each opens.kept places)
        o.proof) shapes-here
        (opens.opened.shown commitment opens.committed.commits))

  -- the lists of the rounds are as long as they are to be
  pub rounds-shape : HasRounds k p r
  rounds-shape = record {
    commitments = sym count;
    witnesses = words.witnesses ∙ sym count;
    opened = words.opened ∙ sym count;
    siblings = λ n d within.
        let o = slice_index_or r.proof.rounds_opened n d in
        let lt : n < length r.proof.commitments = omega (arith, within, words.opened) in
        let commitment = entry r.proof.commitments n lt in
        one-sibling n commitment.0 o lt commitment.1
        (slice_get-get_or r.proof.rounds_opened n d within);
    final_poly = words.final_poly.count;
  }

  -- witnesses of no difficulty are zero
  pub canonical : AreCanonical k p r
  canonical =
      record { batch = words.batch_zero; commit = words.rounds_zero; query = words.query_zero }

  module _ (laws : RingLaws k.extension) (claimed-same : (h : ℕ) → is_claimed k p r h
      ≡ list_any (λ m. m.log_height == h) ms) (folds : FoldsFirst k p ms r) where
    -- what joins a round's codeword at a query's place
    joins-here : (j q n : ℕ) → slice_get queries j ≡ Some q → n + 2 ≤ top_of ms →
        joining k p r j q (top_of ms - 1 - n)
        ≡
        (if list_any (λ h. h == top_of ms - 1 - n) (heights_of ms) then slice_index_or
        (first_fold k p.log_blowup ms r.drawn.alpha r.drawn.bivariate (top_of ms - 1 - n))
        (q / 2 ^ (n + 2)) zero_of else zero_of)
    joins-here j q n at_q within =
        let h = top_of ms - 1 - n in
        let fold = first_fold k p.log_blowup ms r.drawn.alpha r.drawn.bivariate h in
        let is_there : ℕ → Bool = λ i. list_any (λ m. m.log_height == i) ms in
        let test = list_any (λ i. i == h) (heights_of ms) in
        let kept : test ≡ is_there h =
        among-kept is_there h 0 (suc (top_of ms)) (omega arith) (omega arith) in
        let cut : top_of ms - h ≡ n + 1 = omega (arith, within) in
        same-where (is_claimed k p r h) test (folded k p r j q h)
        (slice_index_or fold (q / 2 ^ (n + 2)) zero_of) zero_of (claimed-same h ∙ sym kept)
        (λ there. folds j q h at_q (sym kept ∙ there)
        ∙ ap (λ i. slice_index_or fold i zero_of)
        (ap (λ b. q / 2 ^ b / 2) cut ∙ next-place n q))

    -- the value that a query is left with from round to round is its entry of the round's codeword
    values : (j q : ℕ) → slice_get queries j ≡ Some q → (n : ℕ) → n ≤ length r.proof.commitments →
        round_value k p r j q n ≡ slice_index_or (word n) (q / 2 ^ (n + 1)) zero_of
    values j q at_q zero within =
        let level : top_of ms - top_of ms ≡ 0 = omega arith in
        ap (folded k p r j q) top-same ∙ folds j q (top_of ms) at_q top-there
        ∙ ap (λ i. slice_index_or (word 0) i zero_of)
        (ap (λ b. q / 2 ^ b / 2) level ∙ shr-shr q 0 1)
    values j q at_q (suc n) within =
        let l = k.extension in
        let t = top_of ms in
        let h = t - 1 - n in
        let lt : n < length r.proof.commitments = omega (arith, within) in
        let some = over.blowup in
        let high : n + 3 ≤ t = omega (arith, lt, few, some) in
        let commitment = entry r.proof.commitments n lt in
        let o = entry r.proof.rounds_opened n (omega (arith, lt, words.opened)) in
        let pair =
        pair-here n commitment.0 o.0 lt commitment.1 o.1 j q at_q
        (values j q at_q n (omega (arith, lt))) in
        let beta = slice_index_or r.drawn.betas n zero_of in
        let i = q / 2 ^ (n + 2) in
        let pairs_here = pairs_of (word n) in
        let fold = first_fold k p.log_blowup ms r.drawn.alpha r.drawn.bivariate h in
        let test = list_any (λ m. m == h) (heights_of ms) in
        let next = x_folds k.field k.gen l k.embed (h - 1) beta pairs_here in
        let less : t - 2 - n ≡ h - 1 = omega arith in
        let low : i < 2 ^ (h - 1) =
        let two : n + 1 + 1 ≡ n + 2 = omega arith in
        let half : t - 1 - (n + 1) ≡ h - 1 = omega arith in
        subst (λ b. i < 2 ^ b) half
        (subst (λ b. q / 2 ^ b < 2 ^ (t - 1 - (n + 1))) two
        (place-in (n + 1) q (omega (arith, high)) (below j q at_q))) in
        let in_pairs : i < length pairs_here =
        omega (
          arith,
          low,
          length-pairs_of (word n) h (omega (arith, high))
              (word-length n (omega (arith, high))),
        ) in
        let in_next : i < length next =
        omega (
          arith,
          low,
          length-x_folds k (h - 1) beta pairs_here
              (length-pairs_of (word n) h (omega (arith, high))
              (word-length n (omega (arith, high)))),
        ) in
        let in_fold : i < length fold =
        omega (
          arith,
          low,
          first_fold-length k p.log_blowup ms r.drawn.alpha r.drawn.bivariate h
              (omega (arith, high)),
        ) in
        let place : n + 2 ≡ suc n + 1 = omega arith in
        ap
        (λ a. l.add
        (fold_pair l beta (k.embed (round_twiddle k.field k.gen a n q))
        (round_pair k p r j q n)) (joining k p r j q (a - 1 - n))) top-same
        ∙ ap
        (λ a. l.add
        (fold_pair l beta
        (k.embed (slice_index_or (fold_x_twiddles k.field k.gen a) i k.field.zero))
        (round_pair k p r j q n)) (joining k p r j q h)) less
        ∙ ap
        (λ a. l.add
        (fold_pair l beta
        (k.embed (slice_index_or (fold_x_twiddles k.field k.gen (h - 1)) i k.field.zero)) a)
        (joining k p r j q h)) pair
        ∙ ap (λ a. l.add a (joining k p r j q h))
        (sym (x_folds-read k (h - 1) beta pairs_here i low in_pairs))
        ∙ ap (l.add (slice_index_or next i zero_of)) (joins-here j q n at_q (omega (arith, high)))
        ∙ sym (joined-read k laws test next fold i in_next in_fold)
        ∙ ap (λ b. slice_index_or (word (suc n)) (q / 2 ^ b) zero_of) place

    -- the pairs of the rounds authenticate
    pub rounds-authenticate : RoundsAuthenticate k p r word_authenticates
    rounds-authenticate i d within =
        let commits = r.proof.commitments in
        let steps = r.proof.rounds_opened in
        let in_commits = in-first commits steps i within in
        let commitment = entry commits i in_commits in
        let o = entry steps i (in-second commits steps i within) in
        subst (RoundAuthenticates k p r word_authenticates)
        (sym (numbered-read commits steps i within commitment.0 o.0 d commitment.1 o.1))
        (round-here i commitment.0 o.0 in_commits commitment.1 o.1
        (λ j q at_q. values j q at_q i (omega (arith, in_commits))))

    -- each query's chain ends in the value of the final polynomial
    pub chains : ChainsEnd k p r
    chains =
        let l = k.extension in
        let n = rounds k p r in
        all-end k p r (λ j lt.
        let q = slice_index_or queries j 0 in
        let at_q = slice_get-get_or queries j 0 lt in
        let m = p.log_blowup + p.log_final_poly_len in
        let points = coset k.field k.gen m (k.gen (m + 2)) in
        let i = q / 2 ^ (n + 1) in
        let left : top_of ms - 1 - n ≡ m = omega (arith, few, count) in
        let low : i < 2 ^ m =
        subst (λ b. i < 2 ^ b) left
        (place-in n q (omega (arith, few, count)) (below j q at_q)) in
        let here : i < length points =
        omega (arith, low, length-coset k.field k.gen m (k.gen (m + 2))) in
        let x : Coordinates F → F = λ c. c.x in
        values j q at_q n (omega (arith, count))
        ∙ ap (λ b. slice_index_or (word b) i zero_of) count
        ∙ ap (λ w. slice_index_or w i zero_of) (sym words.final_poly.values)
        ∙ get_or-map (λ c. x_value l r.proof.final_poly (k.embed c.x)) points i (origin k.field)
        zero_of here
        ∙ ap (λ c. x_value l r.proof.final_poly (k.embed c))
        (sym (get_or-map x points i (origin k.field) k.field.zero here)))
