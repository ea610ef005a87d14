-- What contracts see of a scheme that proofs are made over, and of the challengers of its runs.
use Rattle.std.specs.Prelude.{ℕ, List}
use Rattle.circle_challenger.specs.Moves.{RunMoves}
use Rattle.circle_commit.specs.Pcs.{Openings}
use Rattle.circle_commit.specs.declared.matrix.RowMajorMatrix.{RowMajorMatrix}
use Rattle.circle_commit.specs.declared.params.FriParameters.{FriParameters}
use Rattle.circle_commit.specs.declared.pcs.OpeningRequest.{OpeningRequest}
use Rattle.circle_field.specs.declared.field.Operations.{Ghosts}
use Rattle.circle_relation.specs.Accepts.{Authenticates, Fields}
use Rattle.circle_relation.specs.Statement.{BatchClaim}
use Rattle.circle_relation.specs.declared.error.ProverError.{ProverError}
use Rattle.circle_stark.specs.Draw.{Described}
use Rattle.circle_stark.specs.Statement.{Proved, Statement, described_by}

-- a scheme of type P over the fields F and E, with challengers of type C that have the states S
pub record Schemes (P C S F E : Type 0) : Type 1 where
  -- the commitments to batches and to codewords, and the proofs of rows of both
  pub Commitment : Type 0
  pub WordCommitment : Type 0
  pub RowsProof : Type 0
  pub WordRowsProof : Type 0
  -- what a committer keeps, what proves opened values, and why a verifier refuses them
  pub ProverData : Type 0
  pub Opening : Type 0
  pub Error : Type 0
  -- the scheme of the codewords
  pub WordScheme : Type 0
  pub operations : Ghosts F
  pub bytes : F → List ℕ
  pub num_bytes : ℕ
  pub fields : Fields F E
  -- what a challenger is to the transcript of the batches' commitments, and to the scheme's
  pub own : RunMoves C S F E Commitment
  pub words : RunMoves C S F E WordCommitment
  pub params : P → FriParameters WordScheme
  pub kept : ProverData → List (RowMajorMatrix F)
  pub Commits : P → List (RowMajorMatrix F) → Commitment → Type 0
  pub authenticates : P → Authenticates Commitment F RowsProof
  pub word_authenticates : P → Authenticates WordCommitment E WordRowsProof
  -- from one state the scheme opens requests with these values and this proof, or refuses to, and
  -- leaves the other; and the values are those of the batches that were committed to
  pub Gives : P → List (OpeningRequest ProverData E) → S → Openings E → Opening → S → Type 0
  pub RefusesToOpen : P → List (OpeningRequest ProverData E) → S → S → ProverError → Type 0
  pub AreTrue : P → List (OpeningRequest ProverData E) → Openings E → Type 0
  -- from one state the scheme refuses the claims and their proof, and leaves the other
  pub RefusesClaims : P → Opening → List (BatchClaim Commitment E) → S → S → Error → Type 0

module _ {P C S F E : Type 0} (o : Schemes P C S F E) where
  -- what describes a statement to the transcript
  abbrev pub described : Statement F → Described F
  described s = described_by o.bytes o.num_bytes s

  -- the proofs, as contracts see them
  abbrev pub ProvedOver : Type 0
  ProvedOver = Proved F E o.Commitment o.WordCommitment o.RowsProof o.WordRowsProof
