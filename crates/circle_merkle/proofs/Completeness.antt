-- What a tree over matrices gives is shown to be of its root.
use Rattle.std.specs.Prelude.{◌≡◌, ℕ, ◌+◌, ◌-◌, ◌*◌, ◌/◌, ◌^◌, ◌<◌, ◌≤◌, ◌==◌, ◌&&◌, ◌||◌, true}
use Rattle.std.specs.Prelude.{false, not, List, [], ◌∷◌, ◌++◌, length, map, All, slice_index}
use Rattle.std.specs.Prelude.{slice_index_or, if◌then◌else◌}
use Rattle.std.specs.List.{list_any, flat_map}
use Rattle.std.proofs.Common.{zero, suc, refl, sym, ap, ◌∙◌, arith, ⊎_elim, get_or}
use Rattle.std.proofs.lemmas.List.{length-map, get_or-map}
use Rattle.std.proofs.lemmas.List.Elements.{All-nil, All-cons, All-head, All-tail, All-weaker}
use Rattle.std.proofs.lemmas.List.Elements.{All-map}
use Rattle.std.proofs.lemmas.Bool.{eq-eqb, ne_eqb, cases_eq, cases_Bool}
use Rattle.std.proofs.Math.Bool.{or-false}
use Rattle.std.proofs.lemmas.Nat.{shr_below}
use Rattle.circle_commit.specs.Matrix.{IsPowerOfTwo}
use Rattle.circle_commit.specs.declared.matrix.RowMajorMatrix.{RowMajorMatrix}
use Rattle.circle_commit.specs.RowMajorMatrix.{rows, width_of, height_of, length-rows, rows-width}
use Rattle.circle_commit.specs.Mmcs.{heights, row_at, dimensions_of, max_height, rows_at}
use Rattle.circle_commit.specs.Mmcs.{rows_at_each}
use Rattle.circle_commit.specs.MmcsFacts.{row_at-powers}
use Rattle.circle_merkle.specs.Tree.{digest, computed, node_digest, joined_digest, with_rows}
use Rattle.circle_merkle.specs.Tree.{is_known, is_taken, given, proof_of}
use Rattle.circle_merkle.specs.Rows.{size_of, bytes_of_height, tree_rows, rows_of, opened_at}
use Rattle.circle_merkle.specs.Rows.{matrix_rows}
use Rattle.circle_merkle.specs.Authentication.{Authenticates, IsRoot}
use Rattle.circle_commit.proofs.Powers.{exponent_unique}
use Rattle.circle_merkle.proofs.Powers.{exponent_within, quotient_twice, level_size, halves}
use Rattle.circle_merkle.proofs.Pairs.{sibling-even, sibling-odd, above}
use Rattle.circle_merkle.proofs.Known.{is_known-above, known-root}
use Rattle.circle_merkle.proofs.Honest.{length-proof, given-proof}

module _ {T : Type 0} where
  -- the rows of matrices at given rows
  abbrev rows_by : (RowMajorMatrix T → ℕ) → List (RowMajorMatrix T) → List (List T)
  rows_by r matrices = map (λ m. slice_index_or (rows m) (r m) []) matrices

  -- only the rows of matrices of the height count
  bytes-agree : (bytes : T → List ℕ) (n i : ℕ) (r : RowMajorMatrix T → ℕ) →
      ((m : RowMajorMatrix T) → height_of m ≡ n → r m ≡ i) → (matrices : List (RowMajorMatrix T)) →
      bytes_of_height bytes (dimensions_of matrices) n (rows_by r matrices)
      ≡ bytes_of_height bytes (dimensions_of matrices) n (rows_of matrices i)
  bytes-agree bytes n i r same [] = refl
  bytes-agree bytes n i r same (m ∷ matrices) =
      let rest = bytes_of_height bytes (dimensions_of matrices) n (rows_by r matrices) in
      ap (λ here. here ++ rest)
      (⊎_elim
      (λ e. ap (λ k. if height_of m == n then flat_map bytes (slice_index_or (rows m) k []) else [])
      (same m e))
      (λ ne. ap (λ b. if b then flat_map bytes (slice_index_or (rows m) (r m) []) else [])
      (ne_eqb (height_of m) n ne)
      ∙ sym
      (ap (λ b. if b then flat_map bytes (slice_index_or (rows m) i []) else [])
      (ne_eqb (height_of m) n ne)))
      (cases_eq (height_of m) n))
      ∙ ap (λ r. (if height_of m == n then flat_map bytes (slice_index_or (rows m) i []) else [])
      ++ r) (bytes-agree bytes n i r same matrices)

  -- the rows of one of the indices that stand below a known position
  opened-known : (f : ℕ → List (List T)) (indices : List ℕ) (level i : ℕ) → is_known indices level i
      ≡ true →
      (index : ℕ) × (index / 2 ^ level ≡ i) × (opened_at indices (map f indices) level i ≡ f index)
  opened-known f [] level i h = absurd (cc)
  opened-known f (index ∷ indices) level i h =
      ⊎_elim
      (λ e. (
        index,
        e,
        ap (λ b. if b then f index else opened_at indices (map f indices) level i)
            (eq-eqb (index / 2 ^ level) i e),
      ))
      (λ ne.
      let later =
      opened-known f indices level i
      (sym (ap (λ b. b || is_known indices level i) (ne_eqb (index / 2 ^ level) i ne)) ∙ h) in (
        later.0,
        later.1,
        ap (λ b. if b then f index else opened_at indices (map f indices) level i)
            (ne_eqb (index / 2 ^ level) i ne) ∙ later.2,
      ))
      (cases_eq (index / 2 ^ level) i)

  -- the widths of rows that are there
  widths-of : (r : RowMajorMatrix T → ℕ) (matrices : List (RowMajorMatrix T)) →
      All (λ m. r m < height_of m) matrices →
      map length (rows_by r matrices) ≡ map (λ dim. dim.width) (dimensions_of matrices)
  widths-of r [] within = refl
  widths-of r (m ∷ matrices) within =
      let here : r m < length (rows m) =
      omega (arith, length-rows m, All-head (λ m. r m < height_of m) m matrices within) in
      ap (λ w. w ∷ map length (rows_by r matrices)) (rows-width m (r m) [] here)
      ∙ ap (λ ws. width_of m ∷ ws)
      (widths-of r matrices (All-tail (λ m. r m < height_of m) m matrices within))

  -- the rows of one matrix at one position are the same
  rows-agree : (top x y j : ℕ) (matrices : List (RowMajorMatrix T)) →
      j < length (dimensions_of matrices) →
      row_at top (slice_index (heights (dimensions_of matrices)) j) x
      ≡ row_at top (slice_index (heights (dimensions_of matrices)) j) y →
      slice_index_or (rows_by (λ m. row_at top (height_of m) x) matrices) j []
      ≡ slice_index_or (rows_by (λ m. row_at top (height_of m) y) matrices) j []
  rows-agree top x y j [] h e = absurd (omega arith)
  rows-agree top x y zero (m ∷ matrices) h e = ap (λ k. slice_index_or (rows m) k []) e
  rows-agree top x y (suc j) (m ∷ matrices) h e = rows-agree top x y j matrices (omega arith) e

  -- no height is above the greatest
  pub heights-bounded : (matrices : List (RowMajorMatrix T)) →
      All (λ m. height_of m ≤ max_height matrices) matrices
  heights-bounded [] = All-nil (λ m. height_of m ≤ 0)
  heights-bounded (m ∷ matrices) =
      All-cons (λ n. height_of n ≤ max_height (m ∷ matrices)) m matrices (omega arith)
      (All-weaker (λ n. height_of n ≤ max_height matrices)
      (λ n. height_of n ≤ max_height (m ∷ matrices)) (λ n h. omega arith) matrices
      (heights-bounded matrices))

module _ (hash : List ℕ → List ℕ) {T : Type 0} (bytes : T → List ℕ)
    (matrices : List (RowMajorMatrix T)) (indices : List ℕ) (levels : ℕ)
    (top : max_height matrices ≡ 2 ^ levels) where
  abbrev opened : ℕ → ℕ → List (List T)
  opened = opened_at indices (rows_at_each matrices indices)

  abbrev honest : ℕ → ℕ → List ℕ
  honest = digest hash (matrix_rows bytes matrices)

  abbrev partial : ℕ → ℕ → List ℕ
  partial = computed hash (tree_rows bytes (dimensions_of matrices) opened) (is_known indices)
      (given indices levels (proof_of honest indices levels levels))

  -- a known position has the bytes of the tree
  bytes-known : (level i : ℕ) → level ≤ levels → is_known indices level i ≡ true →
      bytes_of_height bytes (dimensions_of matrices) (size_of (dimensions_of matrices) level)
      (opened level i)
      ≡ bytes_of_height bytes (dimensions_of matrices) (size_of (dimensions_of matrices) level)
      (rows_of matrices i)
  bytes-known level i h known =
      let n = size_of (dimensions_of matrices) level in
      let size : n ≡ 2 ^ (levels - level) = level_size (max_height matrices) levels level top h in
      let found = opened-known (rows_at matrices) indices level i known in
      let shift : max_height matrices / n ≡ 2 ^ level = ap (λ t. t / n) top
      ∙ ap (λ k. 2 ^ levels / k) size ∙ quotient_twice levels level h in
      ap (bytes_of_height bytes (dimensions_of matrices) n) found.2
      ∙ bytes-agree bytes n i (λ m. row_at (max_height matrices) (height_of m) found.0)
      (λ m e. ap (λ k. found.0 / (max_height matrices / k)) e ∙ ap (λ k. found.0 / k) shift
      ∙ found.1) matrices

  child-is : (level q : ℕ) → level < levels → q < 2 ^ (levels - level) →
      (is_known indices level q ≡ false → is_taken indices level q ≡ true) →
      (is_known indices level q ≡ true → partial level q ≡ honest level q) →
      (if is_known indices level q then partial level q else given indices levels
      (proof_of honest indices levels levels) level q) ≡ honest level q
  child-is level q h lt taken known =
      let other = given indices levels (proof_of honest indices levels levels) level q in
      ⊎_elim
      (λ e. ap (λ b. if b then partial level q else other) e ∙ known e)
      (λ e. ap (λ b. if b then partial level q else other) e
      ∙ given-proof honest indices levels level q h (taken e) lt)
      (cases_Bool (is_known indices level q))

  taken-even : (level i : ℕ) → above (is_known indices level) i ≡ true →
      is_known indices level (2 * i) ≡ false → is_taken indices level (2 * i) ≡ true
  taken-even level i some none =
      let other : is_known indices level (2 * i + 1) ≡ true =
      ap (λ b. b || is_known indices level (2 * i + 1)) (sym none) ∙ some in
      ap (λ s. is_known indices level s && not (is_known indices level (2 * i))) (sibling-even i)
      ∙ ap (λ b. b && not (is_known indices level (2 * i))) other ∙ ap not none

  taken-odd : (level i : ℕ) → above (is_known indices level) i ≡ true →
      is_known indices level (2 * i + 1) ≡ false → is_taken indices level (2 * i + 1) ≡ true
  taken-odd level i some none =
      let other : is_known indices level (2 * i) ≡ true =
      sym (or-false (is_known indices level (2 * i)))
      ∙ ap (λ b. is_known indices level (2 * i) || b) (sym none) ∙ some in
      ap (λ s. is_known indices level s && not (is_known indices level (2 * i + 1))) (sibling-odd i)
      ∙ ap (λ b. b && not (is_known indices level (2 * i + 1))) other ∙ ap not none

  -- at known positions the digests are those of the tree
  partial-known : (level i : ℕ) → level ≤ levels → i < 2 ^ (levels - level) →
      is_known indices level i ≡ true → partial level i ≡ honest level i
  partial-known zero i h lt known = ap (λ b. hash (0 ∷ b)) (bytes-known 0 i (omega arith) known)
  partial-known (suc level) i h lt known =
      let some : above (is_known indices level) i ≡ true = sym (is_known-above indices level i)
      ∙ known in
      let next : level + 1 ≡ suc level = omega arith in
      let double : 2 ^ (levels - level) ≡ 2 * 2 ^ (levels - suc level) =
      halves levels level (omega arith) ∙ ap (λ k. 2 * 2 ^ (levels - k)) next in
      let left = child-is level (2 * i) (omega arith) (omega arith) (taken-even level i some)
      (λ k. partial-known level (2 * i) (omega arith) (omega arith) k) in
      let right = child-is level (2 * i + 1) (omega arith) (omega arith) (taken-odd level i some)
      (λ k. partial-known level (2 * i + 1) (omega arith) (omega arith) k) in
      ap (λ x. with_rows hash (tree_rows bytes (dimensions_of matrices) opened) (suc level) i
      (node_digest hash x
      (if is_known indices level (2 * i + 1) then partial level (2 * i + 1) else given indices
      levels (proof_of honest indices levels levels) level (2 * i + 1)))) left
      ∙ ap (λ y. with_rows hash (tree_rows bytes (dimensions_of matrices) opened) (suc level) i
      (node_digest hash (honest level (2 * i)) y)) right
      ∙ ap (λ b. if list_any (λ dim. dim.height == size_of (dimensions_of matrices) (suc level))
      (dimensions_of matrices) then joined_digest hash
      (node_digest hash (honest level (2 * i)) (honest level (2 * i + 1))) b
      else node_digest hash (honest level (2 * i)) (honest level (2 * i + 1)))
      (bytes-known (suc level) i h known)

  module _ (some : 1 ≤ length indices) (below : All (λ i. i < max_height matrices) indices) where
    in-range : (index : ℕ) → index < 2 ^ levels → All (λ m. IsPowerOfTwo (height_of m)) matrices →
        All (λ m. row_at (max_height matrices) (height_of m) index < height_of m) matrices
    in-range index lt powers = λ k d h.
        let m = get_or matrices k d in
        let power = powers k d h in
        let le : power.0 ≤ levels = exponent_within
        power.0 levels (omega (arith, heights-bounded matrices k d h, power.1, top)) in
        let e : row_at (max_height matrices) (height_of m) index ≡ index / 2 ^ (levels - power.0) =
        ap (λ t. row_at t (height_of m) index) top ∙ ap (λ n. row_at (2 ^ levels) n index) power.1
        ∙ row_at-powers levels power.0 index le in
        let whole : 2 ^ levels ≡ 2 ^ (power.0 + (levels - power.0)) =
        (let s : levels ≡ power.0 + (levels - power.0) = omega arith in ap (λ k. 2 ^ k) s) in
        omega (arith, e, shr_below index power.0 (levels - power.0) (omega arith), power.1)

    pub authenticates-honest : 1 ≤ length matrices →
        All (λ m. IsPowerOfTwo (height_of m)) matrices → (commitment : List ℕ) →
        IsRoot hash bytes matrices commitment →
        Authenticates hash bytes commitment (dimensions_of matrices) indices
        (rows_at_each matrices indices) (proof_of honest indices levels levels)
    authenticates-honest any powers commitment isroot = record {
      shape = record {
        some =
            (let count : length (dimensions_of matrices) ≡ length matrices =
            length-map matrices (λ m. record { width = width_of m; height = height_of m }) in
            omega arith);
        powers_of_two =
            All-map (λ dim. IsPowerOfTwo dim.height)
            (λ m. record { width = width_of m; height = height_of m }) matrices powers;
        widths = All-map (λ rows. map length rows ≡ map (λ dim. dim.width) (dimensions_of matrices))
            (rows_at matrices) indices
            (λ k d h. let lt : get_or indices k d < 2 ^ levels = omega (arith, below k d h, top) in
            widths-of (λ m. row_at (max_height matrices) (height_of m) (get_or indices k d))
            matrices (in-range (get_or indices k d) lt powers));
      };
      known = record {
        some = some;
        one_each = length-map indices (rows_at matrices);
        in_range =
            below;
      };
      agreeing = λ j k l hj hk hl e.
          ap (λ rows. slice_index_or rows j []) (get_or-map (rows_at matrices) indices k 0 [] hk)
          ∙ rows-agree (max_height matrices) (slice_index indices k) (slice_index indices l) j
          matrices hj e
          ∙ sym
          (ap (λ rows. slice_index_or rows j [])
          (get_or-map (rows_at matrices) indices l 0 [] hl));
      levels = levels;
      top = top;
      count = length-proof honest indices levels levels;
      root =
          let same : levels ≡ isroot.levels =
          exponent_unique levels isroot.levels (sym top ∙ isroot.top) in
          let one : 2 ^ (levels - levels) ≡ 1 =
          (let z : levels - levels ≡ 0 = omega arith in ap (λ k. 2 ^ k) z) in
          partial-known levels 0 (omega arith) (omega arith)
          (known-root indices levels some
          (All-weaker (λ i. i < max_height matrices) (λ i. i < 2 ^ levels)
          (λ i lt. omega (arith, top)) indices below)) ∙ ap (λ l. honest l 0) same
          ∙ isroot.root;
    }
