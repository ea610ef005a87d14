-- What the schemes are to contracts at a choice of types.
use Rattle.std.specs.Prelude.{ℕ, List, Vec}
use Rattle.std.specs.declared.alloc.Global.{Global}
use Rattle.circle_challenger.specs.declared.sha256.Sha256Challenger.{Sha256Challenger}
use Rattle.circle_commit.specs.declared.error.FriError.{FriError}
use Rattle.circle_commit.specs.declared.matrix.RowMajorMatrix.{RowMajorMatrix}
use Rattle.circle_commit.specs.declared.pcs.CommitmentOpening.{CommitmentOpening}
use Rattle.circle_commit.specs.declared.pcs.OpeningRequest.{OpeningRequest}
use Rattle.circle_field.specs.declared.cubic.Cubic.{Cubic}
use Rattle.circle_field.specs.declared.mersenne31.Mersenne31.{Mersenne31}
use Rattle.circle_merkle.specs.declared.error.MerkleTreeError.{MerkleTreeError}
use Rattle.circle_merkle.specs.declared.mmcs.ShaMmcs.{ShaMmcs}
use Rattle.circle_prover.specs.Schemes.{Schemes}
use Rattle.circle_relation.specs.declared.error.InputError.{InputError}
use Rattle.circle_relation.specs.declared.error.ProverError.{ProverError}
use Rattle.p3_circle.specs.declared.pcs.CirclePcs.{CirclePcs}

-- the scheme that opens batches
abbrev pub Scheme : Type 0
Scheme = CirclePcs Mersenne31 (ShaMmcs Mersenne31) (ShaMmcs Cubic)

-- why a proof is refused
abbrev pub VerifierError : Type 0
VerifierError = FriError MerkleTreeError (InputError MerkleTreeError MerkleTreeError)

pub record Preset : Type 1 where
  -- the domains, what is kept of a batch and of codewords, and the proofs
  pub Domain : Type 0
  pub Kept : Type 0
  pub WordKept : Type 0
  pub Proof : Type 0
  -- the fields, the challenger and the two schemes of an opening
  pub schemes : Schemes Sha256Challenger (List ℕ) Mersenne31 Cubic (ShaMmcs Mersenne31) (List ℕ)
      Kept (Vec (List ℕ) Global) (ShaMmcs Cubic) (List ℕ) WordKept (Vec (List ℕ) Global)
  -- the scheme refuses to commit to the matrices, each on its domain
  pub CommitRefuses : Scheme → List (Domain × RowMajorMatrix Mersenne31) → ProverError → Type 0
  -- from a challenger in the first state, which is left in the second, it refuses to open what is
  -- requested
  pub OpenRefuses : Scheme → List (OpeningRequest Kept Cubic) → List ℕ → List ℕ → ProverError →
      Type 0
  -- or the claims with their proof
  pub VerifyRefuses : Scheme → List (CommitmentOpening Cubic (List ℕ) Domain) → Proof → List ℕ →
      List ℕ → VerifierError → Type 0
