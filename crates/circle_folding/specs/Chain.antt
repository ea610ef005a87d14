-- A query's way through the first layer and the rounds: Circle STARKs (ePrint 2024/278), section
-- 4.2. With high the logarithm of the greatest height that is committed, a query q below 2^high
-- reads the entry at place q >> (high - h) of a codeword of 2^h entries; the other of its pair is
-- its sibling. The first layer folds codewords of several heights by y, round r a codeword of
-- 2^(high - 1
-- - r) entries by x.
use Rattle.std.specs.Prelude.{◌≡◌, ℕ, ◌+◌, ◌-◌, ◌/◌, ◌%◌, ◌^◌, ◌<◌, ◌≤◌, List, [], ◌∷◌}
use Rattle.std.specs.Prelude.{All, length, map, nat_eq, if◌then◌else◌, slice_index_or}
use Rattle.circle_field.specs.Field.{FieldOps}
use Rattle.circle_field.specs.Circle.{Coordinates}
use Rattle.circle_commit.specs.DotProduct.{pairwise}
use Rattle.circle_folding.specs.Fold.{fold_pair, fold_y_twiddles, fold_x_twiddles}

module _ {F : Type 0} (k : FieldOps F) (gen : ℕ → Coordinates F) where
  -- the twiddle of the pair that query q below 2^high reads in the first codeword of 2^h entries
  abbrev pub first_layer_twiddle : ℕ → ℕ → ℕ → F
  first_layer_twiddle h high q =
      slice_index_or (fold_y_twiddles k gen (h - 1)) (q / 2 ^ (high - h) / 2) k.zero

  -- the twiddle of the pair that query q below 2^h reads in round r
  abbrev pub round_twiddle : ℕ → ℕ → ℕ → F
  round_twiddle h r q = slice_index_or (fold_x_twiddles k gen (h - 2 - r)) (q / 2 ^ (r + 2)) k.zero

  -- those of all queries
  abbrev pub round_twiddles : ℕ → ℕ → List ℕ → List F
  round_twiddles h r queries = map (round_twiddle h r) queries

  -- where one list is those of round r, whatever the greatest height, the other is the next round's
  abbrev pub AreNextTwiddles : ℕ → ℕ → List ℕ → List F → List F → Type 0
  AreNextTwiddles two_adicity r queries old new =
      (h : ℕ) → r + 3 ≤ h → h < two_adicity → All (λ q. q < 2 ^ h) queries →
      old ≡ round_twiddles h r queries → new ≡ round_twiddles h (r + 1) queries

module _ {E : Type 0} where
  -- the pair of the value at a place and its sibling
  abbrev pub pair_of : ℕ → E → E → List E
  pair_of place value sibling =
      if nat_eq (place % 2) 0 then value ∷ sibling ∷ [] else sibling ∷ value ∷ []

  -- the pairs at queries in a codeword where each is the place of its entry once it has lost its
  -- lowest bits, each of the query's value and its sibling
  abbrev pub asked_pairs : ℕ → List ℕ → List E → List E → List (List E)
  asked_pairs bits queries values siblings = pairwise (λ pair sibling. pair sibling)
      (pairwise (λ q. pair_of (q / 2 ^ bits)) queries values) siblings

module _ {E : Type 0} (l : FieldOps E) where
  -- what the value at a place becomes: the fold of its pair
  abbrev pub next_value : E → E → ℕ → E → E → E
  next_value beta t place value sibling = fold_pair l beta t (pair_of place value sibling)

  -- the values of all queries become the folds of their pairs
  abbrev pub EachIsNext : {F : Type 0} → F → (F → E) → E → ℕ → List ℕ → List F → List E →
      List E → List E → Type 0
  EachIsNext zero embed beta bits queries twiddles siblings old new =
      (i : ℕ) (d : E) → i < length queries →
      slice_index_or new i d ≡ next_value beta (embed (slice_index_or twiddles i zero))
      (slice_index_or queries i 0 / 2 ^ bits) (slice_index_or old i d) (slice_index_or siblings i d)
