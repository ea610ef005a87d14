-- What the kept tree is to contracts: its matrices, and the number of levels above the lowest.
use Rattle.std.specs.Prelude.{ℕ, ◌≤◌, List, length, All, slice_index_or, vec_len}
use Rattle.std.proofs.Common.{arith}
use Rattle.circle_commit.specs.Matrix.{IsPowerOfTwo}
use Rattle.circle_commit.specs.RowMajorMatrix.{height_of}
use Rattle.circle_commit.specs.declared.matrix.RowMajorMatrix.{RowMajorMatrix}
use Rattle.sha2.specs.Sha256.{sha256}
use Rattle.circle_merkle.specs.Rows.{matrix_rows}
use Rattle.circle_merkle.specs.Tree.{digest, proof_of}
use Rattle.circle_merkle.specs.PowerTest.{power_of}
use Rattle.circle_merkle.specs.declared.prover_data.ShaProverData.{ShaProverData}

module _ {T B : Type 0} {g h : _} where
  -- the matrices that a tree is over, and the number of its levels above the lowest
  abbrev pub matrices_of : ShaProverData T B g h → List (RowMajorMatrix T)
  matrices_of d = d.matrices.items

  abbrev pub level_count : ShaProverData T B g h → ℕ
  level_count d = vec_len d.upper

  -- the digest at a position of a level of the tree
  abbrev pub digest_of : (T → List ℕ) → ShaProverData T B g h → ℕ → ℕ → List ℕ
  digest_of bytes d = digest sha256 (matrix_rows bytes (matrices_of d))

  -- the digests of a proof for these indices
  abbrev pub due_proof : (T → List ℕ) → ShaProverData T B g h → List ℕ → List (List ℕ)
  due_proof bytes d indices =
      proof_of (digest_of bytes d) indices (level_count d) (level_count d)

  pub some_matrix : (d : ShaProverData T B g h) → 1 ≤ length (matrices_of d)
  some_matrix d = omega (arith, d.some_matrix, d.matrices.ok.0)

  pub powers_of_two : (d : ShaProverData T B g h) →
      All (λ m. IsPowerOfTwo (height_of m)) (matrices_of d)
  powers_of_two d = λ k e lt. power_of (height_of (slice_index_or (matrices_of d) k e))
      (d.powers_of_two k e lt)
