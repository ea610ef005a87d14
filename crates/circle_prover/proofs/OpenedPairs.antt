-- What is opened of matrices of two columns, whose heights are powers of two.
use Rattle.std.specs.Prelude.{◌≡◌, ℕ, ◌+◌, ◌-◌, ◌*◌, ◌/◌, ◌^◌, ◌<◌, ◌≤◌, List, [], ◌∷◌, length, map}
use Rattle.std.specs.Prelude.{All, slice_index_or, Vec}
use Rattle.std.specs.declared.alloc.Global.{Global}
use Rattle.std.proofs.Common.{zero, suc, refl, sym, ◌∙◌, ap, subst, arith}
use Rattle.std.proofs.Math.Nat.{le-max_left, le-max_right, max-zero}
use Rattle.std.proofs.lemmas.List.{length-map, get_or-map}
use Rattle.std.proofs.lemmas.List.Elements.{All-map}
use Rattle.std.proofs.lemmas.Nat.{shr_below, pow-add}
use Rattle.circle_commit.specs.Mmcs.{row_at, max_height, rows_at, rows_at_each, opened_rows}
use Rattle.circle_commit.specs.Mmcs.{HaveHeightsOfPowers}
use Rattle.circle_commit.specs.MmcsFacts.{row_at-powers}
use Rattle.circle_commit.specs.RowMajorMatrix.{rows, height_of, rows-width, length-rows}
use Rattle.circle_commit.specs.declared.matrix.RowMajorMatrix.{RowMajorMatrix}
use Rattle.circle_commit.specs.DotProduct.{pairwise}
use Rattle.circle_domain.proofs.Powers.{pow_order}
use Rattle.circle_codewords.specs.Words.{HaveHeights}
use Rattle.circle_codewords.specs.Openings.{places_of}
use Rattle.circle_prover.proofs.Sided.{places-below}

-- what holds of all that elements are taken to
pub all-back : {A B : Type 0} (P : B → Type 0) (f : A → B) (xs : List A) → All P (map f xs) →
    All (λ x. P (f x)) xs
all-back P f xs all =
    λ i d lt. subst P (get_or-map f xs i d (f d) lt)
    (all i (f d) (omega (arith, lt, length-map xs f)))

-- no matrix is higher than the greatest height
at-most : {T : Type 0} (ms : List (RowMajorMatrix T)) (k : ℕ) (d : RowMajorMatrix T) →
    k < length ms → height_of (slice_index_or ms k d) ≤ max_height ms
at-most [] k d lt = absurd (omega (arith, lt))
at-most (m ∷ ms) zero d lt = le-max_left (height_of m) (max_height ms)
at-most (m ∷ ms) (suc k) d lt = let rest = at-most ms k d (omega (arith, lt)) in
    omega (arith, rest, le-max_right (height_of m) (max_height ms))

-- a query below 2^top, where the height is what `bits` bits leave of it
pub queries-below : (top bits height : ℕ) (queries : List ℕ) → bits ≤ top →
    height ≡ 2 ^ (top - bits) → All (λ q. q < 2 ^ top) queries →
    All (λ q. q < height * 2 ^ bits) queries
queries-below top bits height queries within is low =
    let split : top ≡ top - bits + bits = omega (arith, within) in
    let whole : 2 ^ top ≡ height * 2 ^ bits = ap (λ n. 2 ^ n) split ∙ pow-add 2 (top - bits) bits
    ∙ ap (λ h. h * 2 ^ bits) (sym is) in
    subst (λ n. All (λ q. q < n) queries) whole low

-- and its place is below what is left
pub places-left : (top bits : ℕ) (queries : List ℕ) → bits ≤ top → All (λ q. q < 2 ^ top) queries →
    All (λ i. i < 2 ^ (top - bits)) (places_of bits queries)
places-left top bits queries within low =
    places-below (2 ^ (top - bits)) bits queries
    (queries-below top bits (2 ^ (top - bits)) queries within refl low)

module _ {T : Type 0} (hs : List ℕ) (ms : List (RowMajorMatrix T)) (have : HaveHeights hs ms) where
  -- the height of one of them
  height-at : (k : ℕ) (d : RowMajorMatrix T) → k < length ms → height_of (slice_index_or ms k d)
      ≡ 2 ^ (slice_index_or hs k 0 - 1)
  height-at k d lt =
      sym (get_or-map height_of ms k d 0 lt) ∙ ap (λ ns. slice_index_or ns k 0) have.height
      ∙ get_or-map (λ h. 2 ^ (h - 1)) hs k 0 0 (omega (arith, lt, have.count))

  pub powers-of : HaveHeightsOfPowers ms
  powers-of = λ k d lt. (slice_index_or hs k 0 - 1, height-at k d lt)

  module _ (top : ℕ) (highest : max_height ms ≡ 2 ^ top) where
    -- the row at a place is one of the matrix
    row-within : (i : ℕ) → i < 2 ^ top → (k : ℕ) (d : RowMajorMatrix T) → k < length ms →
        row_at (max_height ms) (height_of (slice_index_or ms k d)) i < height_of
        (slice_index_or ms k d)
    row-within i low k d lt =
        let m = slice_index_or ms k d in
        let h = slice_index_or hs k 0 - 1 in
        let tall : height_of m ≡ 2 ^ h = height-at k d lt in
        let le : h ≤ top = pow_order h top (omega (arith, at-most ms k d lt, tall, highest)) in
        let split : top ≡ h + (top - h) = omega (arith, le) in
        let same : row_at (max_height ms) (height_of m) i ≡ i / 2 ^ (top - h) =
        ap (λ t. row_at t (height_of m) i) highest ∙ ap (λ n. row_at (2 ^ top) n i) tall
        ∙ row_at-powers top h i le in
        omega (arith, same, tall, shr_below i h (top - h) (subst (λ n. i < 2 ^ n) split low))

    -- the rows at a place are pairs
    pairs-at : (i : ℕ) → i < 2 ^ top → All (λ r. length r ≡ 2) (rows_at ms i)
    pairs-at i low =
        All-map (λ (r : List T). length r ≡ 2)
        (λ m. slice_index_or (rows m) (row_at (max_height ms) (height_of m) i) []) ms
        (λ k d lt.
        let m = slice_index_or ms k d in
        let j = row_at (max_height ms) (height_of m) i in
        let long : length (rows m) ≡ height_of m = length-rows m in
        rows-width m j [] (omega (arith, row-within i low k d lt, long)) ∙ have.width k d lt)

    module _ (places : List ℕ) (low : All (λ i. i < 2 ^ top) places)
        (values : List (Vec (Vec T Global) Global))
        (are : opened_rows values ≡ rows_at_each ms places) where
      -- a row of each matrix
      pub opened-counts : All (λ r. length r.items ≡ length hs) values
      opened-counts =
          let Counted : List (List T) → Type 0 = λ rs. length rs ≡ length hs in
          let seen =
          all-back Counted (λ (r : Vec (Vec T Global) Global). map (λ row. row.items) r.items)
          values
          (subst (All Counted) (sym are)
          (All-map Counted (rows_at ms) places
          (λ k d lt. length-map ms
          (λ m. slice_index_or (rows m)
          (row_at (max_height ms) (height_of m) (slice_index_or places k d)) [])
          ∙ have.count))) in
          λ k d lt. sym (length-map (slice_index_or values k d).items (λ row. row.items))
          ∙ seen k d lt

      -- and each a pair
      pub opened-pairs : All (λ r. All (λ row. length row.items ≡ 2) r.items) values
      opened-pairs =
          let Paired : List (List T) → Type 0 = λ rs. All (λ r. length r ≡ 2) rs in
          let seen =
          all-back Paired (λ (r : Vec (Vec T Global) Global). map (λ row. row.items) r.items)
          values
          (subst (All Paired) (sym are)
          (All-map Paired (rows_at ms) places
          (λ k d lt. pairs-at (slice_index_or places k d) (low k d lt)))) in
          λ k d lt. all-back (λ (r : List T). length r ≡ 2) (λ (row : Vec T Global). row.items)
          (slice_index_or values k d).items (seen k d lt)

-- what is made of queries and of what is made of their places
pub pairwise-made : {B C : Type 0} (f : ℕ → B → C) (g : ℕ → B) (bits : ℕ) (queries : List ℕ) →
    pairwise f queries (map g (places_of bits queries)) ≡ map (λ q. f q (g (q / 2 ^ bits))) queries
pairwise-made f g bits [] = refl
pairwise-made f g bits (q ∷ queries) =
    ap (λ rest. f q (g (q / 2 ^ bits)) ∷ rest) (pairwise-made f g bits queries)

-- the greatest height of one matrix
pub one-highest : {T : Type 0} (h : ℕ) (ms : List (RowMajorMatrix T)) → HaveHeights (h ∷ []) ms →
    max_height ms ≡ 2 ^ (h - 1)
one-highest h [] have = absurd (omega (arith, have.count))
one-highest h (m ∷ []) have = max-zero (height_of m) ∙ ap (λ ns. slice_index_or ns 0 0) have.height
one-highest h (m ∷ n ∷ ms) have = absurd (omega (arith, have.count))
