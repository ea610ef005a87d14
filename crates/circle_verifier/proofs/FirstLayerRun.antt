-- A run's codewords of the first layer, each of one height that is claimed.
use Rattle.std.specs.Prelude.{◌≡◌, ℕ, true, ◌+◌, ◌-◌, ◌/◌, ◌<◌, ◌≤◌, List, [], ◌∷◌, ◌++◌, length}
use Rattle.std.specs.Prelude.{map, take, drop, All, slice_get, slice_index_or, Some, Vec}
use Rattle.std.specs.List.{flat_map}
use Rattle.std.specs.declared.alloc.Global.{Global}
use Rattle.std.proofs.Common.{suc, refl, sym, ◌∙◌, ap, subst, arith}
use Rattle.std.proofs.lemmas.List.{get_or-map, get_or_default, length-map, take_all}
use Rattle.std.proofs.lemmas.List.Elements.{All-weaker}
use Rattle.std.proofs.lemmas.Option.{slice_get_within, slice_get-get_or}
use Rattle.circle_field.specs.Field.{sub}
use Rattle.circle_field.specs.Circle.{Coordinates}
use Rattle.circle_commit.specs.declared.matrix.Dimensions.{Dimensions}
use Rattle.circle_point.specs.Basis.{vanishing}
use Rattle.circle_commit.specs.DotProduct.{pairwise}
use Rattle.circle_domain.proofs.Twiddles.{map-map}
use Rattle.circle_folding.specs.Fold.{folds}
use Rattle.circle_folding.specs.Chain.{asked_pairs, first_layer_twiddle}
use Rattle.circle_folding.specs.Queries.{query_point}
use Rattle.circle_verifier.specs.declared.run.OpenedRun.{OpenedRun}
use Rattle.circle_relation.specs.declared.run.QueriedWord.{QueriedWord}
use Rattle.circle_relation.specs.Accepts.{Run, Authenticates, FirstLayerAuthenticates}
use Rattle.circle_relation.specs.Accepts.{at_queries, matrices, top, is_claimed, place_of}
use Rattle.circle_relation.specs.Accepts.{first_value, first_pair}
use Rattle.circle_relation.specs.Statement.{log_height}
use Rattle.circle_verifier.specs.OfRun.{run_of, heights_of, reduced_words, first_pairs}
use Rattle.circle_relation.specs.RunOf.{queried}
use Rattle.circle_verifier.specs.OfRun.{folded_words, IsOpened}
use Rattle.circle_verifier.specs.FirstLayer.{twiddles_of, pairs_of, folded_word, with_pairs}
use Rattle.circle_verifier.specs.FirstLayer.{pair_shape}
use Rattle.circle_verifier.specs.Sums.{word_at}
use Rattle.circle_verifier.proofs.Twiddles.{heights-split, part-within, first-part, later-parts}
use Rattle.circle_verifier.proofs.FirstLayerPlaces.{kept, place-counts, any-least}
use Rattle.circle_verifier.proofs.FirstLayerWords.{take-push, take-push-map, word-there}
use Rattle.circle_verifier.proofs.FirstLayerWords.{rows-pushed, sibling_at, at-each, length-at}
use Rattle.circle_verifier.proofs.FirstLayerWords.{first-values, siblings-at, pairs-at, folded-at}

All-unmap : {A B : Type 0} (P : B → Type 0) (f : A → B) (xs : List A) → All P (map f xs) →
    All (λ x. P (f x)) xs
All-unmap P f xs all =
    λ i d lt. subst P (get_or-map f xs i d (f d) lt)
    (all i (f d) (omega (arith, lt, length-map xs f)))

-- of a height the queries' values and siblings in the first layer; the pairs of the heights
module _ {F E I W IC ID IP IE WC WD WP WE : Type 0} {g ext over inputs ic ip ie words wc wp we : _}
    (o : OpenedRun F E I W IC ID IP IE WC WD WP WE g ext over inputs ic ip ie words wc wp we) where
  abbrev at_each : {T : Type 0} → (ℕ → ℕ → T) → List T
  at_each f = at_queries over.fields o.params.now (run_of o) f

  abbrev pub values_of : ℕ → List E
  values_of h = at_each (λ j q. first_value over.fields o.params.now (run_of o) j q h)

  abbrev pub siblings_of : ℕ → List E
  siblings_of h = at_each (sibling_at over.fields o.params.now (run_of o) h)

  abbrev pub pairs_up_to : ℕ → List (List (List E))
  pairs_up_to n =
      at_each (λ j q.
      map (first_pair over.fields o.params.now (run_of o) j q) (take n (heights_of o)))

  -- a height that is claimed, and its place among all
  pub record IsClaimed (place h : ℕ) : Type 0 where
    pub opened : IsOpened o
    pub at : slice_get (heights_of o) place ≡ Some h

  pub claimed : IsOpened o → (place h : ℕ) → slice_get (heights_of o) place ≡ Some h →
      IsClaimed place h
  claimed opened place h at = record { opened = opened; at = at }

  -- the reduced codewords
  pub record AreReduced {f : _} (listed : List (QueriedWord F E f)) : Type 0 where
    pub opened : IsOpened o
    pub reduced : map queried listed ≡ reduced_words o

module _ {F E I W IC ID IP IE WC WD WP WE : Type 0} {g ext over inputs ic ip ie words wc wp we : _}
    {o : OpenedRun F E I W IC ID IP IE WC WD WP WE g ext over inputs ic ip ie words wc wp we}
    {place h : ℕ} (w : IsClaimed o place h) where
  abbrev r : Run F E WC IC IP WP
  r = run_of o

  kept_height : (is_claimed over.fields o.params.now r h ≡ true) × (0 ≤ h)
      × (h < 0 + suc (top over.fields o.params.now r))
  kept_height =
      kept (is_claimed over.fields o.params.now r) 0 (suc (top over.fields o.params.now r)) place h
      w.at

  -- a height that is claimed is no greater than the greatest, and more than twice the blowup
  pub height-within : h ≤ o.log_max_height
  height-within = omega (arith, kept_height.2, o.drawn.top)

  pub height-large : o.params.now.log_blowup + 2 ≤ h
  height-large =
      let blowup = o.params.now.log_blowup in
      any-least (log_height blowup) (blowup + 2) h (matrices over.fields o.params.now r)
      kept_height.0
      (All-weaker (λ m. o.params.now.log_final_poly_len + 2 ≤ m.log_n)
      (λ m. blowup + 2 ≤ log_height blowup m) (λ m large. omega (arith, large))
      (matrices over.fields o.params.now r) w.opened.large)

  -- its place among the heights
  pub height-place : place_of over.fields o.params.now r h ≡ place
  height-place =
      place-counts (is_claimed over.fields o.params.now r) 0 (suc (top over.fields o.params.now r))
      place h
      w.at

  pub lambda-there : place < length o.proof.now.lambdas.items
  lambda-there =
      omega (arith, slice_get_within (heights_of o) place h w.at, w.opened.shape.lambdas)

  abbrev lists : List (Vec E Global)
  lists = o.proof.now.fri_proof.input_openings.first_layer_siblings.items

  abbrev entries : Vec E Global → List E
  entries v = v.items

  pub siblings-there : All (λ list. place < length list.items) lists
  siblings-there =
      let enough : place < length (heights_of o) = slice_get_within
      (heights_of o) place h w.at in
      All-unmap (λ xs. place < length xs) entries lists
      (All-weaker (λ xs. length xs ≡ length (heights_of o)) (λ xs. place < length xs)
      (λ xs same. omega (arith, enough, same)) (map entries lists)
      w.opened.shape.first_siblings.1)

  -- its siblings, by what was read of the lists
  pub siblings-read : {xs ys : List E} {from : List (Vec E Global)} → xs ≡ ys →
      ((d : E) → ys ≡ map (λ list. slice_index_or list.items place d) from) → from ≡ lists →
      xs ≡ siblings_of o h
  siblings-read same read are =
      let zero = over.fields.extension.zero in
      same ∙ read zero ∙ ap (map (λ list. slice_index_or list.items place zero)) are
      ∙ sym (map-map (λ e. slice_index_or e place zero) entries lists)
      ∙ siblings-at over.fields o.params.now r h place height-place w.opened.shape.first_siblings.0

  -- a list that has an entry for each query
  pub counted : {T : Type 0} (xs : List T) (f : ℕ → ℕ → T) →
      xs ≡ at_queries over.fields o.params.now r f →
      length xs ≡ length o.indices.now
  counted xs f are = ap length are ∙ length-at over.fields o.params.now r f

  -- its points
  pub points-of : (ps : List (Coordinates F)) → ps ≡ (word_at o h).1.0 →
      ps ≡ map (query_point over.fields.field over.fields.gen h o.log_max_height) o.indices.now
  points-of ps are =
      are
      ∙ sym
      (at-each over.fields o.params.now r
      (query_point over.fields.field over.fields.gen h (top over.fields o.params.now r)))
      ∙ ap (λ high. map (query_point over.fields.field over.fields.gen h high) o.indices.now)
      (sym o.drawn.top)

  -- its values, less lambda times the vanishing polynomial
  pub values-made : {word : ℕ × (List (Coordinates F) × List E)} {ps : List (Coordinates F)}
      {old new : List E} {lambda : E} →
      word ≡ word_at o h → ps ≡ word.1.0 → old ≡ word.1.1 →
      lambda ≡ slice_index_or o.proof.now.lambdas.items place lambda →
      new
      ≡ pairwise
      (λ v p. sub over.fields.extension v
      (over.fields.extension.mul lambda
      (over.fields.embed (vanishing over.fields.field (h - o.params.now.log_blowup) p))))
      old ps →
      new ≡ values_of o h
  values-made {ps = ps} {lambda = lambda} is are were read made =
      let less =
      λ (t : E) (v : E) (p : Coordinates F). sub over.fields.extension v
      (over.fields.extension.mul t
      (over.fields.embed (vanishing over.fields.field (h - o.params.now.log_blowup) p))) in
      let word = word_at o h in
      made ∙ ap (λ xs. pairwise (less lambda) xs ps) (were ∙ ap (λ p. p.1.1) is)
      ∙ ap (pairwise (less lambda) word.1.1) (are ∙ ap (λ p. p.1.0) is)
      ∙ ap (λ t. pairwise (less t) word.1.1 word.1.0)
      (read ∙ get_or_default o.proof.now.lambdas.items place lambda over.fields.extension.zero
      lambda-there)
      ∙ first-values over.fields o.params.now r h place height-place

  -- its pairs, and what these fold into
  pub pairs-made : {values siblings : List E} → values ≡ values_of o h →
      siblings ≡ siblings_of o h →
      asked_pairs (o.log_max_height - h) o.indices.now values siblings ≡ pairs_of o h
  pairs-made {siblings = siblings} vs ss =
      let bits = o.log_max_height - h in
      ap (λ xs. asked_pairs bits o.indices.now xs siblings) vs
      ∙ ap (asked_pairs bits o.indices.now (values_of o h)) ss
      ∙ pairs-at over.fields o.params.now r h bits (ap (λ high. high - h) o.drawn.top)

  pub folds-made : {twiddles : List F} {pairs : List (List E)} →
      twiddles ≡ map (first_layer_twiddle over.fields.field over.fields.gen h o.log_max_height)
      o.indices.now →
      pairs ≡ pairs_of o h →
      folds over.fields.extension o.bivariate (map over.fields.embed twiddles) pairs
      ≡ (folded_word o h).1
  folds-made {pairs = pairs} ts ps =
      let twiddles =
      λ (high : ℕ). map (first_layer_twiddle over.fields.field over.fields.gen h high)
      o.indices.now in
      ap (λ xs. folds over.fields.extension o.bivariate (map over.fields.embed xs) pairs)
      (ts ∙ ap twiddles o.drawn.top)
      ∙ ap
      (folds over.fields.extension o.bivariate
      (map over.fields.embed (twiddles (top over.fields o.params.now r)))) ps
      ∙ folded-at over.fields o.params.now r h

  -- the codewords so far, with that of this height
  pub folded-more : {fs : List (ℕ × List E)} {word : ℕ × List E} →
      fs ≡ take place (folded_words o) → word ≡ folded_word o h → fs ++ word ∷ []
      ≡ take (place + 1) (folded_words o)
  folded-more {word = word} are is =
      ap (λ xs. xs ++ word ∷ []) are ∙ ap (λ x. take place (folded_words o) ++ x ∷ []) is
      ∙ sym (take-push-map (folded_word o) (heights_of o) place h w.at)

  -- the rows so far, with those of this height
  pub pairs-more : {rows new : List (List (List E))} → rows ≡ pairs_up_to o place →
      new ≡ with_pairs rows (pairs_of o h) → new ≡ pairs_up_to o (place + 1)
  pairs-more are pushed =
      let pair = first_pair over.fields o.params.now r in
      pushed ∙ ap (λ xs. with_pairs xs (pairs_of o h)) are
      ∙ rows-pushed over.fields o.params.now r pair (take place (heights_of o)) h
      ∙ ap (λ hs. at_queries over.fields o.params.now r (λ j q. map (pair j q) hs))
      (sym (take-push (heights_of o) place h w.at))

  -- of the inverses of this height and of those above it, its own, and the others
  pub next-inverses : {later : List F} →
      later ≡ map over.fields.field.inv (flat_map (twiddles_of o) (drop place (heights_of o))) →
      (length o.indices.now ≤ length later)
      × (take (length o.indices.now) later ≡ map over.fields.field.inv (twiddles_of o h))
      × (drop (length o.indices.now) later
      ≡ map over.fields.field.inv (flat_map (twiddles_of o) (drop (place + 1) (heights_of o))))
  next-inverses are =
      let twiddles = twiddles_of o in
      let n = length o.indices.now in
      let rest = drop (place + 1) (heights_of o) in
      let long =
      length-map o.indices.now
      (first_layer_twiddle over.fields.field over.fields.gen h o.log_max_height) in
      let parts =
      are ∙ ap (λ hs. map over.fields.field.inv (flat_map twiddles hs))
      (heights-split (heights_of o) place h w.at) in (
        omega (arith, ap length parts, part-within over.fields.field.inv twiddles h rest n long),
        ap (take n) parts ∙ first-part over.fields.field.inv twiddles h rest n long,
        ap (drop n) parts ∙ later-parts over.fields.field.inv twiddles h rest n long,
      )

module _ {F E I W IC ID IP IE WC WD WP WE : Type 0} {g ext over inputs ic ip ie words wc wp we : _}
    {o : OpenedRun F E I W IC ID IP IE WC WD WP WE g ext over inputs ic ip ie words wc wp we}
    {f : _} {listed : List (QueriedWord F E f)} (a : AreReduced o listed) where
  -- the codeword at a place is that of a height that is claimed
  pub word-of : (n : ℕ) (word : QueriedWord F E f) → n < length listed →
      word ≡ slice_index_or listed n word →
      IsClaimed o n word.log_height × (queried word ≡ word_at o word.log_height)
  word-of n word lt read =
      let t = word-there (word_at o) (heights_of o) (map queried listed) n (queried word)
      (λ h. refl) a.reduced (omega (arith, lt, length-map listed queried))
      (ap queried read ∙ sym (get_or-map queried listed n word (queried word) lt)) in
      (record { opened = a.opened; at = t.0 }, t.1)

  pub place-of : {m n h : ℕ} → m ≡ n → IsClaimed o n h → slice_get (heights_of o) m ≡ Some h
  place-of same w = ap (slice_get (heights_of o)) same ∙ w.at

  -- no row has a pair yet
  pub none-yet : {rows : List (List (List E))} → rows ≡ map (λ _. []) o.indices.now →
      rows ≡ pairs_up_to o 0
  none-yet are = are ∙ at-each over.fields o.params.now (run_of o) (λ q. [])

  pub count-rows : (rows : List (List (List E))) (n : ℕ) → rows ≡ pairs_up_to o n →
      length rows ≡ length o.indices.now
  count-rows rows n are =
      ap length are
      ∙ length-at over.fields o.params.now (run_of o)
      (λ j q. map (first_pair over.fields o.params.now (run_of o) j q) (take n (heights_of o)))

  -- all codewords
  pub all-heights : (n : ℕ) → n ≡ length listed → length (heights_of o) ≡ n
  all-heights n all =
      sym (all ∙ sym (length-map listed queried) ∙ ap length a.reduced
      ∙ length-map (heights_of o) (word_at o))

  pub pairs-all : (rows : List (List (List E))) (n : ℕ) → n ≡ length listed →
      rows ≡ pairs_up_to o n → rows ≡ first_pairs o
  pairs-all rows n all are =
      are
      ∙ ap
      (λ hs. at_queries over.fields o.params.now (run_of o)
      (λ j q. map (first_pair over.fields o.params.now (run_of o) j q) hs))
      (take_all n (heights_of o) (omega (arith, all-heights n all)))

  pub folded-all : (fs : List (ℕ × List E)) (n : ℕ) → n ≡ length listed →
      fs ≡ take n (folded_words o) → fs ≡ folded_words o
  folded-all fs n all are =
      are
      ∙ take_all n (folded_words o)
      (omega (arith, all-heights n all, length-map (heights_of o) (folded_word o)))

module _ {F E I W IC ID IP IE WC WD WP WE : Type 0} {g ext over inputs ic ip ie words wc wp we : _}
    {o : OpenedRun F E I W IC ID IP IE WC WD WP WE g ext over inputs ic ip ie words wc wp we}
    (opened : IsOpened o)
  where
    -- the heights that are claimed are those of codewords that fold by pairs
    pub heights-fit : (hs : List ℕ) → over.fields.two_adicity ≤ 62 → hs ≡ heights_of o →
        All (λ h. (1 ≤ h) × (h ≤ 63)) hs
    heights-fit hs small are = λ i d lt.
        let at : slice_get (heights_of o) i ≡ Some (slice_index_or hs i d) =
        ap (λ xs. slice_get xs i) (sym are) ∙ slice_get-get_or hs i d lt in
        let c = claimed o opened i (slice_index_or hs i d) at in (
          omega (arith, height-large c),
          omega (arith, height-within c, o.drawn.in_group, small),
        )

    -- the first layer authenticates by what the scheme is to show
    pub layer-asked : (A : Authenticates WC E WP) (shapes : List Dimensions) (places : List ℕ)
        (rows : List (List (List E))) →
        shapes ≡ map pair_shape (heights_of o) → places ≡ map (λ q. q / 2) o.indices.now →
        rows ≡ first_pairs o →
        FirstLayerAuthenticates over.fields o.params.now (run_of o) A →
        A o.proof.now.first_layer_commitment shapes places rows
        o.proof.now.fri_proof.input_openings.first_layer_proof
    layer-asked A shapes places rows ss ps rs held =
        let commitment = o.proof.now.first_layer_commitment in
        let proof = o.proof.now.fri_proof.input_openings.first_layer_proof in
        let all = map pair_shape (heights_of o) in
        let halved = map (λ q. q / 2) o.indices.now in
        subst (λ xs. A commitment xs places rows proof) (sym ss)
        (subst (λ xs. A commitment all xs rows proof) (sym ps)
        (subst (λ xs. A commitment all halved xs proof) (sym rs) held))
