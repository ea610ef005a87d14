-- Levels of digests: parts of ranges, rows of one height, and the digests over pairs.
use Rattle.std.specs.Prelude.{◌≡◌, ℕ, ◌+◌, ◌*◌, ◌<◌, ◌==◌, Bool, true, false, List, [], ◌∷◌, ◌++◌}
use Rattle.std.specs.Prelude.{length, map, slice_index_or, if◌then◌else◌}
use Rattle.std.specs.List.{range_with_len, flat_map}
use Rattle.std.proofs.Common.{zero, suc, refl, sym, ap, ◌∙◌, arith, length-append}
use Rattle.std.proofs.lemmas.Bool.{eqb-true}
use Rattle.circle_commit.specs.declared.matrix.RowMajorMatrix.{RowMajorMatrix}
use Rattle.std.specs.List.{list_any}
use Rattle.circle_commit.specs.RowMajorMatrix.{height_of, length-rows, rows, rows-width}
use Rattle.std.proofs.lemmas.List.FromFn.{get_or-map-range_with_len}
use Rattle.sha2.specs.Sha256.{sha256}
use Rattle.circle_commit.specs.Mmcs.{dimensions_of}
use Rattle.circle_merkle.specs.Authentication.{level_digests}
use Rattle.circle_merkle.specs.Messages.{pair_digest, row_digests}
use Rattle.circle_merkle.specs.RowBytes.{matrix_bytes}
use Rattle.circle_merkle.specs.Rows.{matrix_rows, size_of}
use Rattle.circle_merkle.specs.Tree.{digest, node_digest, rows_digest}
use Rattle.circle_merkle.proofs.Maps.{map-agree}
use Rattle.circle_merkle.proofs.TreeSteps.{digest-joined, digest-plain}

-- a range goes on behind another
pub range-joined : {X : Type 0} (f : ℕ → X) (a n m b : ℕ) → a + n ≡ b → map f (range_with_len a n)
    ++ map f (range_with_len b m) ≡ map f (range_with_len a (n + m))
range-joined f a zero m b at =
    let here : b ≡ a = omega arith in
    let none : m ≡ 0 + m = omega arith in
    ap (λ k. map f (range_with_len k m)) here ∙ ap (λ k. map f (range_with_len a k)) none
range-joined f a (suc n) m b at =
    let longer : suc (n + m) ≡ suc n + m = omega arith in
    ap (λ xs. f a ∷ xs) (range-joined f (a + 1) n m b (omega arith))
    ∙ ap (λ k. map f (range_with_len a k)) longer

module _ {T : Type 0} (bytes : T → List ℕ) (size : ℕ) (count : (a : T) → length (bytes a) ≡ size)
  where
    row-length : (row : List T) → length (flat_map bytes row) ≡ length row * size
    row-length [] = omega arith
    row-length (x ∷ row) =
        omega (arith, length-append (bytes x) (flat_map bytes row), row-length row, count x)

    pieces-alike : (b : Bool) (p q : List ℕ) → (b ≡ true → length p ≡ length q) →
        length (if b then p else []) ≡ length (if b then q else [])
    pieces-alike true p q same = same refl
    pieces-alike false p q same = refl

    one-alike : (m : RowMajorMatrix T) (height i j : ℕ) → i < height → j < height → height_of m ==
        height ≡ true
        → length (flat_map bytes (slice_index_or (rows m) i []))
        ≡ length (flat_map bytes (slice_index_or (rows m) j []))
    one-alike m height i j below within is =
        let high : height_of m ≡ height = eqb-true (height_of m) height is in
        let wide =
        λ (k : ℕ) (lt : k < height). rows-width m k [] (omega (arith, length-rows m, high, lt)) in
        row-length (slice_index_or (rows m) i [])
        ∙ ap (λ n. n * size) (wide i below ∙ sym (wide j within))
        ∙ sym (row-length (slice_index_or (rows m) j []))

    -- rows of the matrices of one height have one number of bytes
    pub rows-alike : (matrices : List (RowMajorMatrix T)) (height i j : ℕ) → i < height → j < height
        → length (matrix_bytes bytes height i matrices)
        ≡ length (matrix_bytes bytes height j matrices)
    rows-alike [] height i j below within = refl
    rows-alike (m ∷ matrices) height i j below within =
        let row = λ (k : ℕ). flat_map bytes (slice_index_or (rows m) k []) in
        let first =
        pieces-alike (height_of m == height) (row i) (row j)
        (one-alike m height i j below within) in
        let rest = rows-alike matrices height i j below within in
        length-append (if height_of m == height then row i else [])
        (matrix_bytes bytes height i matrices)
        ∙ ap (λ n. n + length (matrix_bytes bytes height i matrices)) first
        ∙ ap (λ n. length (if height_of m == height then row j else []) + n) rest
        ∙ sym
        (length-append (if height_of m == height then row j else [])
        (matrix_bytes bytes height j matrices))

module _ {T : Type 0} (bytes : T → List ℕ) (matrices : List (RowMajorMatrix T)) (level height : ℕ)
    (below : List (List ℕ))
    (size : size_of (dimensions_of matrices) (suc level) ≡ height)
    (under : below ≡ level_digests sha256 bytes matrices level (2 * height)) where
  under-at : (k : ℕ) → k < 2 * height → digest sha256 (matrix_rows bytes matrices) level k
      ≡ slice_index_or below k []
  under-at k lt =
      sym (ap (λ ds. slice_index_or ds k []) under
      ∙ get_or-map-range_with_len (digest sha256 (matrix_rows bytes matrices) level) 0
      (2 * height) k k [] lt (omega arith))

  -- the next level where no rows stand on it
  pub plain-level : list_any (λ m. height_of m == height) matrices ≡ false
      → map (pair_digest sha256 1 below) (range_with_len 0 height)
      ≡ level_digests sha256 bytes matrices (suc level) height
  plain-level none =
      map-agree (pair_digest sha256 1 below)
      (digest sha256 (matrix_rows bytes matrices) (suc level)) 0 height (λ i lt.
      digest-plain sha256 bytes matrices level height i (slice_index_or below (2 * i) [])
      (slice_index_or below (2 * i + 1) []) size
      (under-at (2 * i) (omega arith)) (under-at (2 * i + 1) (omega arith)) none)

  -- the next level where rows stand on it
  pub joined-level : (nodes rows pairs : List (List ℕ)) →
      nodes ≡ map (pair_digest sha256 1 below) (range_with_len 0 height)
      → rows ≡ row_digests bytes matrices height height
      →
      ((i : ℕ) → i < height → (slice_index_or pairs (2 * i) [] ≡ slice_index_or nodes i [])
      × (slice_index_or pairs (2 * i + 1) [] ≡ slice_index_or rows i []))
      → list_any (λ m. height_of m == height) matrices ≡ true
      → map (pair_digest sha256 2 pairs) (range_with_len 0 height)
      ≡ level_digests sha256 bytes matrices (suc level) height
  joined-level nodes rows pairs en er at some =
      map-agree (pair_digest sha256 2 pairs)
      (digest sha256 (matrix_rows bytes matrices) (suc level)) 0 height (λ i lt.
      let left : List ℕ = slice_index_or below (2 * i) [] in
      let right : List ℕ = slice_index_or below (2 * i + 1) [] in
      let row : ℕ → List ℕ = λ i. rows_digest sha256 (matrix_bytes bytes height i matrices) in
      let short : i < height = omega arith in
      let node : slice_index_or pairs (2 * i) [] ≡ node_digest sha256 left right =
      (at i short).0 ∙ ap (λ ds. slice_index_or ds i []) en
      ∙ get_or-map-range_with_len (pair_digest sha256 1 below) 0 height i i [] short
      (omega arith) in
      let beside : slice_index_or pairs (2 * i + 1) [] ≡ row i =
      (at i short).1 ∙ ap (λ ds. slice_index_or ds i []) er
      ∙ get_or-map-range_with_len row 0 height i i [] short (omega arith) in
      ap (λ n. sha256 ((2 ∷ n) ++ slice_index_or pairs (2 * i + 1) [])) node
      ∙ ap (λ r. sha256 ((2 ∷ node_digest sha256 left right) ++ r)) beside
      ∙ digest-joined sha256 bytes matrices level height i left right size
      (under-at (2 * i) (omega arith)) (under-at (2 * i + 1) (omega arith)) some)
