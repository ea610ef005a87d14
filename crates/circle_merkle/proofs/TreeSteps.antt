-- What the digests of a tree over matrices are, level by level.
use Rattle.std.specs.Prelude.{◌≡◌, ℕ, ◌+◌, ◌*◌, ◌==◌, true, false, List, [], ◌∷◌, ◌++◌, ◌||◌}
use Rattle.std.specs.Prelude.{if◌then◌else◌}
use Rattle.std.specs.List.{list_any}
use Rattle.std.proofs.Common.{suc, refl, ap, sym, ◌∙◌}
use Rattle.circle_commit.specs.declared.matrix.RowMajorMatrix.{RowMajorMatrix}
use Rattle.circle_commit.specs.RowMajorMatrix.{height_of}
use Rattle.circle_commit.specs.Mmcs.{dimensions_of}
use Rattle.circle_merkle.specs.Tree as Tree
use Rattle.circle_merkle.specs.Tree.{rows_digest, node_digest, digest}
use Rattle.circle_merkle.specs.Rows.{size_of, matrix_rows}
use Rattle.circle_merkle.specs.RowBytes.{matrix_bytes}

list_any-dimensions : {T : Type 0} (height : ℕ) (matrices : List (RowMajorMatrix T)) →
    list_any (λ dim. dim.height == height) (dimensions_of matrices)
    ≡ list_any (λ m. height_of m == height) matrices
list_any-dimensions height [] = refl
list_any-dimensions height (m ∷ matrices) =
    ap (λ b. (height_of m == height) || b) (list_any-dimensions height matrices)

module _ (hash : List ℕ → List ℕ) {T : Type 0} (bytes : T → List ℕ)
    (matrices : List (RowMajorMatrix T)) where
  abbrev rows : Tree.Rows
  rows = matrix_rows bytes matrices

  bytes-at : (level height i : ℕ) → size_of (dimensions_of matrices) level ≡ height →
      rows.bytes level i ≡ matrix_bytes bytes height i matrices
  bytes-at level height i e = ap (λ h. matrix_bytes bytes h i matrices) e

  stand-at : (level height : ℕ) → size_of (dimensions_of matrices) level ≡ height → rows.stand level
      ≡ list_any (λ m. height_of m == height) matrices
  stand-at level height e = ap (λ h. list_any (λ dim. dim.height == h) (dimensions_of matrices)) e
      ∙ list_any-dimensions height matrices

  pub digest-lowest : (height i : ℕ) → size_of (dimensions_of matrices) 0 ≡ height →
      rows_digest hash (matrix_bytes bytes height i matrices) ≡ digest hash rows 0 i
  digest-lowest height i e = ap (rows_digest hash) (sym (bytes-at 0 height i e))

  module _ (level height i : ℕ) (left right : List ℕ)
      (e : size_of (dimensions_of matrices) (suc level) ≡ height)
      (l : digest hash rows level (2 * i) ≡ left) (r : digest hash rows level (2 * i + 1) ≡ right)
    where
      node : node_digest hash (digest hash rows level (2 * i)) (digest hash rows level (2 * i + 1))
          ≡ node_digest hash left right
      node = ap (λ x. node_digest hash x (digest hash rows level (2 * i + 1))) l
          ∙ ap (λ y. node_digest hash left y) r

      pub digest-joined : list_any (λ m. height_of m == height) matrices ≡ true →
          hash ((2 ∷ node_digest hash left right)
          ++ rows_digest hash (matrix_bytes bytes height i matrices))
          ≡ digest hash rows (suc level) i
      digest-joined some =
          let here = digest hash rows level in
          sym
          (ap
          (λ b. if b then hash ((2 ∷ node_digest hash (here (2 * i)) (here (2 * i + 1)))
          ++ rows_digest hash (rows.bytes (suc level) i)) else node_digest hash (here (2 * i))
          (here (2 * i + 1))) (stand-at (suc level) height e ∙ some)
          ∙ ap (λ n. hash ((2 ∷ n) ++ rows_digest hash (rows.bytes (suc level) i))) node
          ∙ ap (λ b. hash ((2 ∷ node_digest hash left right) ++ rows_digest hash b))
          (bytes-at (suc level) height i e))

      pub digest-plain : list_any (λ m. height_of m == height) matrices ≡ false →
          node_digest hash left right ≡ digest hash rows (suc level) i
      digest-plain none =
          let here = digest hash rows level in
          sym
          (ap
          (λ b. if b then hash ((2 ∷ node_digest hash (here (2 * i)) (here (2 * i + 1)))
          ++ rows_digest hash (rows.bytes (suc level) i)) else node_digest hash (here (2 * i))
          (here (2 * i + 1))) (stand-at (suc level) height e ∙ none)
          ∙ node)
