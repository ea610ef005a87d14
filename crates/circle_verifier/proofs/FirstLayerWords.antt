-- The codewords of the first layer: what is opened at each query, as lists.
use Rattle.std.specs.Prelude.{◌≡◌, ℕ, ◌+◌, ◌-◌, ◌/◌, ◌^◌, ◌<◌, List, [], ◌∷◌, ◌++◌, Some, length}
use Rattle.std.specs.Prelude.{map, take, slice_get, slice_index_or}
use Rattle.std.specs.Option.{option_map}
use Rattle.std.proofs.Common.{refl, sym, ◌∙◌, ap, arith}
use Rattle.std.proofs.lemmas.List.{map-append, take_more, length-map, get_or-map}
use Rattle.std.proofs.lemmas.Option.{slice_get_within, get_or_from_slice_get, slice_get-get_or}
use Rattle.std.proofs.lemmas.Option.{slice_get-map}
use Rattle.circle_commit.specs.declared.params.FriParameters.{FriParameters}
use Rattle.circle_field.specs.Field.{sub}
use Rattle.circle_field.specs.Circle.{Coordinates}
use Rattle.circle_point.specs.Basis.{vanishing}
use Rattle.circle_commit.specs.DotProduct.{pairwise}
use Rattle.circle_folding.specs.Fold.{fold_pair, folds}
use Rattle.circle_folding.specs.Chain.{pair_of, asked_pairs, first_layer_twiddle}
use Rattle.circle_relation.specs.Accepts.{Fields, Run, at_queries, place_of, point_among}
use Rattle.circle_relation.specs.Accepts.{reduced_at, claims_of, first_value, first_pair, folded}
use Rattle.circle_relation.specs.Accepts.{top}
use Rattle.circle_relation.proofs.AtQueries.{placed, zip-placed, length-placed, pairwise-placed}
use Rattle.circle_relation.proofs.AtQueries.{map-placed, itself-placed, listed-placed}

-- the first entries and one more
pub take-push : {T : Type 0} (xs : List T) (i : ℕ) (x : T) → slice_get xs i ≡ Some x →
    take (i + 1) xs ≡ take i xs ++ x ∷ []
take-push xs i x at = take_more xs i x (slice_get_within xs i x at)
    ∙ ap (λ y. take i xs ++ y ∷ []) (get_or_from_slice_get xs i x x at)

pub take-push-map : {B : Type 0} (f : ℕ → B) (xs : List ℕ) (i x : ℕ) → slice_get xs i ≡ Some x →
    take (i + 1) (map f xs) ≡ take i (map f xs) ++ f x ∷ []
take-push-map f xs i x at =
    take-push (map f xs) i (f x) (slice_get-map f xs i ∙ ap (option_map f) at)

-- the codeword at a place, of those that heights are taken to
pub word-there : {B : Type 0} (f : ℕ → ℕ × B) (hs : List ℕ) (ws : List (ℕ × B)) (n : ℕ)
    (w : ℕ × B) → ((h : ℕ) → (f h).0 ≡ h) → ws ≡ map f hs → n < length ws →
    w ≡ slice_index_or ws n w →
    (slice_get hs n ≡ Some w.0) × (w ≡ f w.0)
word-there f hs ws n w own are lt read =
    let enough : n < length hs = omega (arith, lt, ap length are, length-map hs f) in
    let of_height : w ≡ f (slice_index_or hs n 0) = read ∙ ap (λ xs. slice_index_or xs n w) are
    ∙ get_or-map f hs n 0 w enough in
    let height : w.0 ≡ slice_index_or hs n 0 = ap (λ p. p.0) of_height
    ∙ own (slice_index_or hs n 0) in
    (slice_get-get_or hs n 0 enough ∙ ap Some (sym height), of_height ∙ ap f (sym height))

-- one more entry of each row
pushed-placed : {E : Type 0} (f : ℕ → ℕ → ℕ → E) (hs : List ℕ) (h n : ℕ) (qs : List ℕ) →
    pairwise (λ rows row. rows ++ row ∷ []) (placed (λ j q. map (f j q) hs) n qs)
    (placed (λ j q. f j q h) n qs) ≡ placed (λ j q. map (f j q) (hs ++ h ∷ [])) n qs
pushed-placed f hs h n [] = refl
pushed-placed f hs h n (q ∷ qs) =
    ap
    (λ row. row
    ∷ pairwise (λ rows row. rows ++ row ∷ []) (placed (λ j q. map (f j q) hs) (n + 1) qs)
    (placed (λ j q. f j q h) (n + 1) qs)) (sym (map-append (f n q) hs (h ∷ [])))
    ∙ ap (λ rest. map (f n q) (hs ++ h ∷ []) ∷ rest) (pushed-placed f hs h (n + 1) qs)

themselves-placed : (n : ℕ) (qs : List ℕ) → qs ≡ placed (λ j q. q) n qs
themselves-placed n [] = refl
themselves-placed n (q ∷ qs) = ap (λ rest. q ∷ rest) (themselves-placed (n + 1) qs)

module _ {F E M Com InputCom InputProof WordProof : Type 0} (fields : Fields F E)
    (params : FriParameters M) (r : Run F E Com InputCom InputProof WordProof) where
  abbrev queries : List ℕ
  queries = r.drawn.queries

  pub at-pairwise : {A B C : Type 0} (c : A → B → C) (f : ℕ → ℕ → A) (g : ℕ → ℕ → B) →
      pairwise c (at_queries fields params r f) (at_queries fields params r g)
      ≡ at_queries fields params r (λ j q. c (f j q) (g j q))
  at-pairwise c f g =
      ap (λ xs. pairwise c xs (at_queries fields params r g)) (zip-placed f 0 queries)
      ∙ ap (pairwise c (placed f 0 queries)) (zip-placed g 0 queries)
      ∙ pairwise-placed c f g 0 queries ∙ sym (zip-placed (λ j q. c (f j q) (g j q)) 0 queries)

  pub at-map : {A B : Type 0} (c : A → B) (f : ℕ → ℕ → A) → map c (at_queries fields params r f)
      ≡ at_queries fields params r (λ j q. c (f j q))
  at-map c f = ap (map c) (zip-placed f 0 queries) ∙ map-placed c f 0 queries
      ∙ sym (zip-placed (λ j q. c (f j q)) 0 queries)

  pub at-each : {T : Type 0} (f : ℕ → T) → map f queries ≡ at_queries fields params r (λ j q. f q)
  at-each f = itself-placed f 0 queries ∙ sym (zip-placed (λ j q. f q) 0 queries)

  pub at-themselves : queries ≡ at_queries fields params r (λ j q. q)
  at-themselves = themselves-placed 0 queries ∙ sym (zip-placed (λ j q. q) 0 queries)

  pub at-listed : {T : Type 0} (xs : List T) (d : T) → length xs ≡ length queries →
      xs ≡ at_queries fields params r (λ j q. slice_index_or xs j d)
  at-listed xs d count = listed-placed xs d queries count
      ∙ sym (zip-placed (λ j q. slice_index_or xs j d) 0 queries)

  pub length-at : {T : Type 0} (f : ℕ → ℕ → T) → length (at_queries fields params r f)
      ≡ length queries
  length-at f = ap length (zip-placed f 0 queries) ∙ length-placed f 0 queries

  -- the rows of the queries, with that of one more height
  pub rows-pushed : {T : Type 0} (f : ℕ → ℕ → ℕ → T) (hs : List ℕ) (h : ℕ) →
      pairwise (λ rows row. rows ++ row ∷ []) (at_queries fields params r (λ j q. map (f j q) hs))
      (at_queries fields params r (λ j q. f j q h))
      ≡ at_queries fields params r (λ j q. map (f j q) (hs ++ h ∷ []))
  rows-pushed f hs h =
      ap
      (λ xs. pairwise (λ rows row. rows ++ row ∷ []) xs
      (at_queries fields params r (λ j q. f j q h)))
      (zip-placed (λ j q. map (f j q) hs) 0 queries)
      ∙ ap (pairwise (λ rows row. rows ++ row ∷ []) (placed (λ j q. map (f j q) hs) 0 queries))
      (zip-placed (λ j q. f j q h) 0 queries)
      ∙ pushed-placed f hs h 0 queries
      ∙ sym (zip-placed (λ j q. map (f j q) (hs ++ h ∷ [])) 0 queries)

  -- the siblings of a height
  abbrev pub sibling_at : ℕ → ℕ → ℕ → E
  sibling_at h j q = slice_index_or (slice_index_or r.proof.first_layer_opened.entries j [])
      (place_of fields params r h) fields.extension.zero

  pub siblings-at : (h k : ℕ) → place_of fields params r h ≡ k →
      length r.proof.first_layer_opened.entries ≡ length queries →
      map (λ e. slice_index_or e k fields.extension.zero) r.proof.first_layer_opened.entries
      ≡ at_queries fields params r (sibling_at h)
  siblings-at h k place count =
      let entries = r.proof.first_layer_opened.entries in
      ap (map (λ e. slice_index_or e k fields.extension.zero)) (at-listed entries [] count)
      ∙ at-map (λ e. slice_index_or e k fields.extension.zero) (λ j q. slice_index_or entries j [])
      ∙ ap
      (λ i. at_queries fields params r
      (λ j q. slice_index_or (slice_index_or entries j []) i fields.extension.zero)) (sym place)

  -- the first values of a height
  pub first-values : (h k : ℕ) → place_of fields params r h ≡ k →
      pairwise
      (λ v p. sub fields.extension v
      (fields.extension.mul (slice_index_or r.proof.lambdas k fields.extension.zero)
      (fields.embed (vanishing fields.field (h - params.log_blowup) p))))
      (at_queries fields params r
      (λ j q. reduced_at fields params r (point_among fields params r j q h)
      (claims_of fields params r h j)))
      (at_queries fields params r (λ j q. point_among fields params r j q h))
      ≡ at_queries fields params r (λ j q. first_value fields params r j q h)
  first-values h k place =
      let values = λ (j : ℕ) (q : ℕ). reduced_at fields params r (point_among fields params r j q h)
      (claims_of fields params r h j) in
      let less =
      λ (i : ℕ) (v : E) (p : Coordinates F). sub fields.extension v
      (fields.extension.mul (slice_index_or r.proof.lambdas i fields.extension.zero)
      (fields.embed (vanishing fields.field (h - params.log_blowup) p))) in
      at-pairwise (less k) values (λ j q. point_among fields params r j q h)
      ∙ ap
      (λ i. at_queries fields params r
      (λ j q. less i (values j q) (point_among fields params r j q h))) (sym place)

  -- the pairs of a height
  pub pairs-at : (h bits : ℕ) → bits ≡ top fields params r - h →
      asked_pairs bits queries
      (at_queries fields params r (λ j q. first_value fields params r j q h))
      (at_queries fields params r (sibling_at h))
      ≡ at_queries fields params r (λ j q. first_pair fields params r j q h)
  pairs-at h bits lost =
      let value = λ (j : ℕ) (q : ℕ). first_value fields params r j q h in
      let pair = λ (b : ℕ) (q : ℕ) (v sibling : E). pair_of (q / 2 ^ b) v sibling in
      let values = at_queries fields params r value in
      let siblings = at_queries fields params r (sibling_at h) in
      let apply = λ (p : E → List E) (sibling : E). p sibling in
      ap (λ qs. pairwise apply (pairwise (pair bits) qs values) siblings) at-themselves
      ∙ ap (λ ps. pairwise apply ps siblings) (at-pairwise (pair bits) (λ j q. q) value)
      ∙ at-pairwise apply (λ j q. pair bits q (value j q)) (sibling_at h)
      ∙ ap (λ b. at_queries fields params r (λ j q. pair b q (value j q) (sibling_at h j q))) lost

  -- the folds of these pairs
  pub folded-at : (h : ℕ) →
      folds fields.extension r.drawn.bivariate
      (map fields.embed
      (map (first_layer_twiddle fields.field fields.gen h (top fields params r)) queries))
      (at_queries fields params r (λ j q. first_pair fields params r j q h))
      ≡ at_queries fields params r (λ j q. folded fields params r j q h)
  folded-at h =
      let twiddle = first_layer_twiddle fields.field fields.gen h (top fields params r) in
      let pair = λ (j : ℕ) (q : ℕ). first_pair fields params r j q h in
      let step = fold_pair fields.extension r.drawn.bivariate in
      ap (λ ts. pairwise step (map fields.embed ts) (at_queries fields params r pair))
      (at-each twiddle)
      ∙ ap (λ ts. pairwise step ts (at_queries fields params r pair))
      (at-map fields.embed (λ j q. twiddle q))
      ∙ at-pairwise step (λ j q. fields.embed (twiddle q)) pair
