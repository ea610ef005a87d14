-- What the scheme shows: which matrices have a root, and which opened rows are those of a root.
use Rattle.std.specs.Prelude.{◌≡◌, ℕ, ◌<◌, ◌≤◌, ◌^◌, ◌-◌, ◌+◌, ◌*◌}
use Rattle.std.specs.Prelude.{List, [], length, map, All, slice_index, slice_index_or}
use Rattle.std.specs.List.{range_with_len}
use Rattle.std.proofs.Common.{suc}
use Rattle.sha2.specs.Sha256.{sha256}
use Rattle.circle_commit.specs.Matrix.{IsPowerOfTwo}
use Rattle.circle_commit.specs.declared.matrix.Dimensions.{Dimensions}
use Rattle.circle_commit.specs.declared.matrix.RowMajorMatrix.{RowMajorMatrix}
use Rattle.circle_commit.specs.Mmcs.{dimensions_of, greatest, heights, max_height, row_at}
use Rattle.circle_merkle.specs.Tree.{digest, computed, is_known, given, taken_below}
use Rattle.circle_merkle.specs.Rows.{tree_rows, opened_at, matrix_rows, size_of}

module _ {T : Type 0} where
  -- there are shapes, their heights are powers of two, and each index has a row of the right width
  -- for each of them
  pub record HasShape (dims : List Dimensions) (opened : List (List (List T))) : Type 0 where
    pub some : 1 ≤ length dims
    pub powers_of_two : All (λ dim. IsPowerOfTwo dim.height) dims
    pub widths : All (λ rows. map length rows ≡ map (λ dim. dim.width) dims) opened

  -- there are indices, each below the greatest height and with its rows
  pub record HasIndices (dims : List Dimensions) (indices : List ℕ)
      (opened : List (List (List T))) : Type 0 where
    pub some : 1 ≤ length indices
    pub one_each : length opened ≡ length indices
    pub in_range : All (λ index. index < greatest (heights dims)) indices

  -- the rows of one matrix at one position are equal
  abbrev pub Agrees : List Dimensions → List ℕ → List (List (List T)) → Type 0
  Agrees dims indices opened =
      let position = λ (j k : ℕ). row_at (greatest (heights dims)) (slice_index (heights dims) j)
      (slice_index indices k) in
      let row = λ (j k : ℕ). slice_index_or (slice_index_or opened k []) j [] in
      (j k l : ℕ) → j < length dims → k < length indices → l < length indices →
      position j k ≡ position j l → row j k ≡ row j l

  module _ (hash : List ℕ → List ℕ) (bytes : T → List ℕ) where
    -- the root of a tree over opened rows and the digests of a proof
    abbrev pub opened_root : List Dimensions → List ℕ → List (List (List T)) → List (List ℕ) → ℕ →
        List ℕ
    opened_root dims indices opened proof levels =
        computed hash (tree_rows bytes dims (opened_at indices opened)) (is_known indices)
        (given indices levels proof) levels 0

    -- the opened rows and the digests of the proof give the commitment
    pub record Authenticates (commitment : List ℕ) (dims : List Dimensions) (indices : List ℕ)
        (opened : List (List (List T))) (proof : List (List ℕ)) : Type 0 where
      pub shape : HasShape dims opened
      pub known : HasIndices dims indices opened
      pub agreeing : Agrees dims indices opened
      pub levels : ℕ
      pub top : greatest (heights dims) ≡ 2 ^ levels
      pub count : length proof ≡ taken_below indices levels levels
      pub root : opened_root dims indices opened proof levels ≡ commitment

    -- the digests of the first `count` positions of a level of the tree over matrices
    abbrev pub level_digests : List (RowMajorMatrix T) → ℕ → ℕ → List (List ℕ)
    level_digests matrices level count =
        map (digest hash (matrix_rows bytes matrices) level) (range_with_len 0 count)

    -- the levels of the tree over matrices, the lowest first
    abbrev pub tree_levels : List (RowMajorMatrix T) → ℕ → List (List (List ℕ))
    tree_levels matrices levels =
        map (λ level. level_digests matrices level (2 ^ (levels - level)))
        (range_with_len 0 (levels + 1))

    -- the levels above the lowest
    abbrev pub upper_levels : List (RowMajorMatrix T) → ℕ → List (List (List ℕ))
    upper_levels matrices levels =
        map (λ level. level_digests matrices level (2 ^ (levels - level)))
        (range_with_len 1 levels)

    -- where 2 * height positions of a level have the digests `below`, `height` positions of the
    -- next have the digests `above`
    abbrev pub IsNextLevel :
        List (RowMajorMatrix T) → ℕ → List (List ℕ) → List (List ℕ) → Type 0
    IsNextLevel matrices height below above =
        (level : ℕ) → size_of (dimensions_of matrices) (suc level) ≡ height →
        below ≡ level_digests matrices level (2 * height) →
        above ≡ level_digests matrices (suc level) height

    -- the root of the tree over matrices
    pub record IsRoot (matrices : List (RowMajorMatrix T)) (commitment : List ℕ) : Type 0 where
      pub levels : ℕ
      pub top : max_height matrices ≡ 2 ^ levels
      pub root : digest hash (matrix_rows bytes matrices) levels 0 ≡ commitment

  -- the same with SHA-256
  abbrev pub ShaAuthenticates : (T → List ℕ) → List ℕ → List Dimensions → List ℕ →
      List (List (List T)) → List (List ℕ) → Type 0
  ShaAuthenticates bytes = Authenticates sha256 bytes

  abbrev pub IsShaRoot : (T → List ℕ) → List (RowMajorMatrix T) → List ℕ → Type 0
  IsShaRoot bytes = IsRoot sha256 bytes
