-- The queries' values from round to round.
use Rattle.std.specs.Prelude.{◌≡◌, ◌≢◌, ℕ, ◌+◌, ◌-◌, ◌/◌, ◌^◌, ◌≤◌, ◌<◌, true, false, ◌==◌}
use Rattle.std.specs.Prelude.{if◌then◌else◌, List, [], ◌∷◌, ◌++◌, length, map, slice_index_or, take}
use Rattle.std.specs.Prelude.{drop, max}
use Rattle.std.specs.List.{list_any}
use Rattle.std.proofs.Common.{suc, refl, sym, ◌∙◌, ap, ⊎_elim, arith, eq-eqb, length-append}
use Rattle.std.proofs.lemmas.Bool.{cases_lt}
use Rattle.std.proofs.lemmas.List.{length-map, get_or-map}
use Rattle.std.proofs.lemmas.List.Folds.{list_any_at}
use Rattle.circle_field.specs.Field.{RingLaws}
use Rattle.circle_field.specs.RingFacts.{add_zero}
use Rattle.circle_field.proofs.Inverses.{take-whole}
use Rattle.circle_commit.specs.DotProduct.{pairwise}
use Rattle.circle_commit.specs.Mmcs.{greatest}
use Rattle.circle_folding.specs.Fold.{fold_pair, folds}
use Rattle.circle_folding.specs.Chain.{pair_of, asked_pairs, round_twiddle}
use Rattle.circle_relation.specs.Statement.{MatrixClaim, log_height}
use Rattle.circle_relation.specs.Accepts.{Fields, top, is_claimed, matrices, at_queries, folded}
use Rattle.circle_relation.specs.Accepts.{joining, sibling_in, round_value, round_pair}
use Rattle.circle_verifier.specs.declared.run.OpenedRun.{OpenedRun}
use Rattle.circle_verifier.specs.OfRun.{run_of}
use Rattle.circle_relation.proofs.AtQueries.{placed, zip-placed, length-placed, pairwise-placed}
use Rattle.circle_relation.proofs.AtQueries.{map-placed, itself-placed, same-placed}
use Rattle.circle_verifier.specs.Rounds.{values_in, siblings_in, folds_in, words_below}
use Rattle.circle_verifier.proofs.RoundsWaiting.{last-same, claimed-more, last-due, last-later}
use Rattle.circle_verifier.proofs.RoundsWaiting.{none-left}

-- what is made of each query and its entry in a list
pairwise-queries : {A B : Type 0} (h : ℕ → A → B) (f : ℕ → ℕ → A) (n : ℕ) (qs : List ℕ) →
    pairwise h qs (placed f n qs) ≡ placed (λ j q. h q (f j q)) n qs
pairwise-queries h f n [] = refl
pairwise-queries h f n (q ∷ qs) = ap (λ rest. h q (f n q) ∷ rest) (pairwise-queries h f (n + 1) qs)

-- a list that is written over twice
pub written-twice : {T : Type 0} (n : ℕ) (last first items : List T) → n ≡ length items →
    length first ≡ length items → length last ≡ length items →
    take n (last ++ drop (length last) (take n (first ++ drop (length first) items))) ≡ last
written-twice n last first items long of_first of_last =
    ap (λ xs. take n (last ++ drop (length last) xs)) (take-whole n first items long of_first)
    ∙ take-whole n last first (long ∙ sym of_first) (of_last ∙ sym of_first)

-- the greatest of numbers is one of them
greatest-there : (ns : List ℕ) → 1 ≤ length ns → (i : ℕ) × (i < length ns)
    × (slice_index_or ns i 0 ≡ greatest ns)
greatest-there [] some = absurd (omega arith)
greatest-there (n ∷ []) some = (0, omega arith, omega arith)
greatest-there (n ∷ m ∷ ns) some =
    let rest = greatest-there (m ∷ ns) (omega arith) in
    ⊎_elim
    (λ lt. (
      suc rest.0,
      omega (arith, rest.1),
      rest.2 ∙ (let e : greatest (m ∷ ns) ≡ max n (greatest (m ∷ ns)) = omega (arith, lt) in e),
    ))
    (λ ge. (0, omega arith, (let e : n ≡ max n (greatest (m ∷ ns)) = omega (arith, ge) in e)))
    (cases_lt n (greatest (m ∷ ns)))

-- a matrix of the greatest height is claimed
pub top-claimed : {E : Type 0} (blowup : ℕ) (ms : List (MatrixClaim E)) → 1 ≤ length ms →
    list_any (λ m. log_height blowup m == greatest (map (log_height blowup) ms)) ms ≡ true
top-claimed blowup [] some = absurd (omega arith)
top-claimed blowup (m ∷ ms) some =
    let all = m ∷ ms in
    let height = log_height blowup in
    let there = greatest-there (map height all) (omega (arith, length-map ms height)) in
    let within : there.0 < length all = omega (arith, there.1, length-map all height) in
    list_any_at (λ c. height c == greatest (map height all)) all there.0 m within
    (eq-eqb (height (slice_index_or all there.0 m)) (greatest (map height all))
    (sym (get_or-map height all there.0 m 0 within) ∙ there.2))

module _ {F E I W IC ID IP IE WC WD WP WE : Type 0} {g ext over inputs ic ip ie words wc wp we : _}
    (o : OpenedRun F E I W IC ID IP IE WC WD WP WE g ext over inputs ic ip ie words wc wp we) where
  abbrev k : Fields F E
  k = over.fields

  -- a round is due only above the last codeword
  pub round-within : (n : ℕ) → n < length o.betas.now → n + 3 ≤ o.log_max_height
  round-within n lt = omega (arith, lt, o.drawn.betas, o.drawn.top, o.drawn.blowup)

  abbrev queries : List ℕ
  queries = o.indices.now

  abbrev value : ℕ → ℕ → ℕ → E
  value n j q = round_value k o.params.now (run_of o) j q n

  abbrev sibling : ℕ → ℕ → ℕ → E
  sibling n j q = sibling_in k o.params.now (run_of o) j q n

  abbrev pair : ℕ → ℕ → ℕ → List E
  pair n j q = round_pair k o.params.now (run_of o) j q n

  abbrev twiddle : ℕ → ℕ → F
  twiddle n q = round_twiddle k.field k.gen (top k o.params.now (run_of o)) n q

  abbrev fold : ℕ → ℕ → ℕ → E
  fold n j q = fold_pair k.extension (slice_index_or o.betas.now n k.extension.zero)
      (k.embed (twiddle n q)) (pair n j q)

  pub length-values_in : (n : ℕ) → length (values_in o n) ≡ length queries
  length-values_in n = ap length (zip-placed (value n) 0 queries)
      ∙ length-placed (value n) 0 queries

  pub length-siblings_in : (n : ℕ) → length (siblings_in o n) ≡ length queries
  length-siblings_in n = ap length (zip-placed (sibling n) 0 queries)
      ∙ length-placed (sibling n) 0 queries

  pub length-folds_in : (n : ℕ) → length (folds_in o n) ≡ length queries
  length-folds_in n = ap length (zip-placed (fold n) 0 queries) ∙ length-placed (fold n) 0 queries

  -- where a height joins, and where none does
  pub joined : (n b : ℕ) → top k o.params.now (run_of o) - 1 - n ≡ b →
      is_claimed k o.params.now (run_of o) b ≡ true →
      pairwise k.extension.add (folds_in o n)
      (at_queries k o.params.now (run_of o) (λ j q. folded k o.params.now (run_of o) j q b))
      ≡ values_in o (suc n)
  joined n b height is =
      let r = run_of o in
      let add = k.extension.add in
      let of = λ (j q : ℕ). folded k o.params.now r j q b in
      ap (λ xs. pairwise add xs (at_queries k o.params.now r of)) (zip-placed (fold n) 0 queries)
      ∙ ap (pairwise add (placed (fold n) 0 queries)) (zip-placed of 0 queries)
      ∙ pairwise-placed add (fold n) of 0 queries
      ∙ ap (λ c. placed (λ j q. add (fold n j q) (if c then of j q else k.extension.zero)) 0
      queries) (sym is)
      ∙ ap (λ h. placed (λ j q. add (fold n j q) (joining k o.params.now r j q h)) 0 queries)
      (sym height)
      ∙ sym (zip-placed (value (suc n)) 0 queries)

  pub unjoined : RingLaws k.extension → (n b : ℕ) → top k o.params.now (run_of o) - 1 - n ≡ b →
      is_claimed k o.params.now (run_of o) b ≡ false → folds_in o n ≡ values_in o (suc n)
  unjoined laws n b height isnt =
      let r = run_of o in
      let add = k.extension.add in
      let of = λ (j q : ℕ). folded k o.params.now r j q b in
      zip-placed (fold n) 0 queries
      ∙ same-placed (fold n) (λ j q. add (fold n j q) k.extension.zero) 0 queries
      (λ i d lt. sym (add_zero laws (fold n (0 + i) (slice_index_or queries i d))))
      ∙ ap (λ c. placed (λ j q. add (fold n j q) (if c then of j q else k.extension.zero)) 0
      queries) (sym isnt)
      ∙ ap (λ h. placed (λ j q. add (fold n j q) (joining k o.params.now r j q h)) 0 queries)
      (sym height)
      ∙ sym (zip-placed (value (suc n)) 0 queries)

  -- the pairs at the queries
  asked : (n : ℕ) (values siblings : List E) → values ≡ values_in o n → siblings ≡ siblings_in o n →
      asked_pairs (n + 1) queries values siblings ≡ placed (pair n) 0 queries
  asked n values siblings vs ss =
      let begin = λ (q : ℕ). pair_of {E = E} (q / 2 ^ (n + 1)) in
      ap (λ xs. asked_pairs (n + 1) queries xs siblings) (vs ∙ zip-placed (value n) 0 queries)
      ∙ ap (asked_pairs (n + 1) queries (placed (value n) 0 queries))
      (ss ∙ zip-placed (sibling n) 0 queries)
      ∙ ap (λ begun. pairwise (λ p x. p x) begun (placed (sibling n) 0 queries))
      (pairwise-queries begin (value n) 0 queries)
      ∙ pairwise-placed (λ p x. p x) (λ j q. begin q (value n j q)) (sibling n) 0 queries

  pub asked-rows : (n : ℕ) (values siblings : List E) → values ≡ values_in o n →
      siblings ≡ siblings_in o n →
      map (λ p. p ∷ []) (asked_pairs (n + 1) queries values siblings)
      ≡ at_queries k o.params.now (run_of o) (λ j q. pair n j q ∷ [])
  asked-rows n values siblings vs ss =
      ap (map (λ p. p ∷ [])) (asked n values siblings vs ss)
      ∙ map-placed (λ p. p ∷ []) (pair n) 0 queries
      ∙ sym (zip-placed (λ j q. pair n j q ∷ []) 0 queries)

  -- what they fold into
  pub folds-of : (n : ℕ) (beta : E) (twiddles : List F) (values siblings : List E) →
      beta ≡ slice_index_or o.betas.now n k.extension.zero →
      twiddles ≡ map (round_twiddle k.field k.gen o.log_max_height n) queries → values ≡ values_in
      o n → siblings ≡ siblings_in o n →
      folds k.extension beta (map k.embed twiddles) (asked_pairs (n + 1) queries values siblings)
      ≡ folds_in o n
  folds-of n beta twiddles values siblings is_beta ts vs ss =
      let l = k.extension in
      let b = slice_index_or o.betas.now n l.zero in
      let rows = asked_pairs (n + 1) queries values siblings in
      ap (λ x. folds l x (map k.embed twiddles) rows) is_beta
      ∙ ap (λ xs. folds l b (map k.embed xs) rows)
      (ts ∙ ap (λ h. map (round_twiddle k.field k.gen h n) queries) o.drawn.top
      ∙ itself-placed (twiddle n) 0 queries)
      ∙ ap (λ xs. folds l b xs rows) (map-placed k.embed (λ j q. twiddle n q) 0 queries)
      ∙ ap (folds l b (placed (λ j q. k.embed (twiddle n q)) 0 queries))
      (asked n values siblings vs ss)
      ∙ pairwise-placed (fold_pair l b) (λ j q. k.embed (twiddle n q)) (pair n) 0 queries
      ∙ sym (zip-placed (fold n) 0 queries)

  -- the codewords begin with that of the greatest height
  abbrev highest : ℕ
  highest = top k o.params.now (run_of o)

  abbrev word_of : ℕ → List E
  word_of h = at_queries k o.params.now (run_of o) (λ j q. folded k o.params.now (run_of o) j q h)

  highest-last : words_below o (suc highest) ≡ words_below o highest
      ++ (highest, word_of highest) ∷ []
  highest-last = claimed-more (is_claimed k o.params.now (run_of o)) word_of highest
      (top-claimed o.params.now.log_blowup (matrices k o.params.now (run_of o)) o.drawn.some_matrix)

  pub first-left : (front : List (ℕ × List E)) (w : ℕ × List E) → front ++ w ∷ []
      ≡ words_below o (suc highest) → front ≡ words_below o (o.log_max_height - 0)
  first-left front w e =
      let same : highest ≡ o.log_max_height - 0 = omega (arith, o.drawn.top) in
      (last-same front (words_below o highest) w (highest, word_of highest)
      (e ∙ highest-last)).0 ∙ ap (words_below o) same

  pub first-values : (front : List (ℕ × List E)) (w : ℕ × List E) → front ++ w ∷ []
      ≡ words_below o (suc highest) → w.1 ≡ values_in o 0
  first-values front w e =
      ap (λ (v : ℕ × List E). v.1)
      (last-same front (words_below o highest) w (highest, word_of highest)
      (e ∙ highest-last)).1

  pub first-there : (ws : List (ℕ × List E)) → length ws ≡ 0 →
      ws ≡ words_below o (suc highest) → ⊥
  first-there ws none e =
      omega (
        arith,
        none,
        ap length (e ∙ highest-last),
        length-append (words_below o highest) ((highest, word_of highest) ∷ []),
      )

  -- what is left, and what has joined, after the round before the height b
  module _ (n : ℕ) (lt : n < length o.betas.now) where
    abbrev due : ℕ
    due = o.log_max_height - 1 - n

    abbrev word : ℕ → List E
    word h = at_queries k o.params.now (run_of o) (λ j q. folded k o.params.now (run_of o) j q h)

    waiting-now : words_below o (o.log_max_height - n) ≡ words_below o (suc due)
    waiting-now = let e : o.log_max_height - n ≡ suc due = omega (arith, round-within n lt) in
        ap (words_below o) e

    waiting-then : words_below o due ≡ words_below o (o.log_max_height - (n + 1))
    waiting-then = let e : due ≡ o.log_max_height - (n + 1) = omega (arith, round-within n lt) in
        ap (words_below o) e

    at-due : top k o.params.now (run_of o) - 1 - n ≡ due
    at-due = ap (λ h. h - 1 - n) (sym o.drawn.top)

    values-then : values_in o (suc n) ≡ values_in o (n + 1)
    values-then = let e : suc n ≡ n + 1 = omega arith in ap (values_in o) e

    pub length-due : (front : List (ℕ × List E)) (w : ℕ × List E) → front ++ w ∷ []
        ≡ words_below o (o.log_max_height - n) → w.0 ≡ due → length w.1 ≡ length queries
    length-due front w e is_due =
        let of = λ (j q : ℕ). folded k o.params.now (run_of o) j q due in
        let facts = last-due (is_claimed k o.params.now (run_of o)) word due front w
        (e ∙ waiting-now) is_due in
        ap length (facts.2 ∙ zip-placed of 0 queries) ∙ length-placed of 0 queries

    pub left-due : (front : List (ℕ × List E)) (w : ℕ × List E) → front ++ w ∷ []
        ≡ words_below o (o.log_max_height - n) → w.0 ≡ due →
        front ≡ words_below o (o.log_max_height - (n + 1))
    left-due front w e is_due =
        (last-due (is_claimed k o.params.now (run_of o)) word due front w (e ∙ waiting-now)
        is_due).1 ∙ waiting-then

    pub values-due : (front : List (ℕ × List E)) (w : ℕ × List E) → front ++ w ∷ []
        ≡ words_below o (o.log_max_height - n) → w.0 ≡ due →
        pairwise k.extension.add (folds_in o n) w.1 ≡ values_in o (n + 1)
    values-due front w e is_due =
        let facts = last-due (is_claimed k o.params.now (run_of o)) word due front w
        (e ∙ waiting-now) is_due in
        ap (pairwise k.extension.add (folds_in o n)) facts.2 ∙ joined n due at-due facts.0
        ∙ values-then

    pub left-later : (front : List (ℕ × List E)) (w : ℕ × List E) → front ++ w ∷ []
        ≡ words_below o (o.log_max_height - n) → w.0 ≢ due → front ++ w ∷ []
        ≡ words_below o (o.log_max_height - (n + 1))
    left-later front w e later =
        (last-later (is_claimed k o.params.now (run_of o)) word due front w (e ∙ waiting-now)
        later).1 ∙ waiting-then

    pub values-later : RingLaws k.extension → (front : List (ℕ × List E)) (w : ℕ × List E) →
        front ++ w ∷ [] ≡ words_below o (o.log_max_height - n) → w.0 ≢ due → folds_in
        o n ≡ values_in o (n + 1)
    values-later laws front w e later =
        unjoined laws n due at-due
        (last-later (is_claimed k o.params.now (run_of o)) word due front w (e ∙ waiting-now)
        later).0 ∙ values-then

    pub left-none : (ws : List (ℕ × List E)) → length ws ≡ 0 →
        ws ≡ words_below o (o.log_max_height - n) →
        ws ≡ words_below o (o.log_max_height - (n + 1))
    left-none [] none e =
        (none-left (is_claimed k o.params.now (run_of o)) word due (e ∙ waiting-now)).1
        ∙ waiting-then
    left-none (w ∷ ws) none e = absurd (omega (arith, none))

    pub values-none : RingLaws k.extension → (ws : List (ℕ × List E)) → length ws ≡ 0 →
        ws ≡ words_below o (o.log_max_height - n) → folds_in o n ≡ values_in o (n + 1)
    values-none laws [] none e =
        unjoined laws n due at-due
        (none-left (is_claimed k o.params.now (run_of o)) word due (e ∙ waiting-now)).0
        ∙ values-then
    values-none laws (w ∷ ws) none e = absurd (omega (arith, none))
