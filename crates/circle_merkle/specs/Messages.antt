-- What a tree hashes beside other messages of one length: pairs of digests, and rows.
use Rattle.std.specs.Prelude.{ℕ, ◌+◌, ◌*◌, List, [], ◌∷◌, ◌++◌, map, slice_index_or}
use Rattle.std.specs.List.{range_with_len}
use Rattle.sha2.specs.Sha256.{sha256}
use Rattle.circle_commit.specs.declared.matrix.RowMajorMatrix.{RowMajorMatrix}
use Rattle.circle_merkle.specs.RowBytes.{matrix_bytes}
use Rattle.circle_merkle.specs.Tree.{rows_digest}

-- pair i of a list, behind a byte
abbrev pub pair_message : ℕ → List (List ℕ) → ℕ → List ℕ
pair_message first pairs i =
    (first ∷ slice_index_or pairs (2 * i) []) ++ slice_index_or pairs (2 * i + 1) []

-- the digest of that
abbrev pub pair_digest : (List ℕ → List ℕ) → ℕ → List (List ℕ) → ℕ → List ℕ
pair_digest hash first pairs i = hash (pair_message first pairs i)

-- the digests of the first n rows of the matrices of this height
abbrev pub row_digests : {T : Type 0} → (T → List ℕ) → List (RowMajorMatrix T) → ℕ → ℕ →
    List (List ℕ)
row_digests bytes matrices height count =
    map (λ i. rows_digest sha256 (matrix_bytes bytes height i matrices)) (range_with_len 0 count)
