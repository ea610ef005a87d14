-- What the command `prove` returns.
use Rattle.std.specs.Prelude.{◌≡◌, ℕ, ◌+◌, ◌^◌, ◌≤◌, List, length, map, replicate, zip}
use Rattle.std.specs.Prelude.{All, Vec}
use Rattle.std.specs.List.{AllZip}
use Rattle.std.specs.declared.alloc.Global.{Global}
use Rattle.circle_challenger.specs.Sha256Challenger.{state_of}
use Rattle.circle_challenger.specs.declared.sha256.Sha256Challenger.{Sha256Challenger}
use Rattle.circle_commit.specs.DotProduct.{pairwise}
use Rattle.circle_commit.specs.Mmcs.{HaveHeightsOfPowers}
use Rattle.circle_commit.specs.Parameters.{with_scheme}
use Rattle.circle_commit.specs.Pcs.{Openings}
use Rattle.circle_commit.specs.RowMajorMatrix.{rows, height_of}
use Rattle.circle_commit.specs.declared.matrix.RowMajorMatrix.{RowMajorMatrix}
use Rattle.circle_commit.specs.declared.pcs.OpeningRequest.{OpeningRequest}
use Rattle.circle_domain.specs.Domain.{log_size, shift_of}
use Rattle.circle_domain.specs.declared.domain.CircleDomain.{CircleDomain}
use Rattle.circle_field.specs.Mersenne31.{operations, generators}
use Rattle.circle_field.specs.declared.cubic.Cubic.{Cubic}
use Rattle.circle_field.specs.declared.mersenne31.Mersenne31.{Mersenne31}
use Rattle.circle_merkle.specs.ProverData.{matrices_of}
use Rattle.circle_merkle.specs.declared.mmcs.ShaMmcs.{ShaMmcs}
use Rattle.circle_prover.specs.Opening.{IsOpening}
use Rattle.circle_codewords.specs.Requests.{AreAnswers, lists_of, log_of}
use Rattle.circle_commit.specs.declared.claims.CommittedBatch.{CommittedBatch}
use Rattle.circle_relation.specs.RunOf.{proof_of}
use Rattle.circle_relation.specs.Statement.{BatchClaim, MatrixClaim}
use Rattle.circle_codewords.specs.Words.{claim_of}
use Rattle.p3_circle.specs.Committing.{IsExtensionOf}
use Rattle.circle_commands.specs.Chosen.{preset}
use Rattle.circle_commands.specs.Commitments.{after_commitments}
use Rattle.circle_commands.specs.Rows.{lists}
use Rattle.circle_commands.specs.Traces.{HasFittingRows}
use Rattle.circle_commands.specs.Verified.{batches_told}
use Rattle.circle_commands.specs.declared.prove.Committed.{Committed}
use Rattle.circle_commands.specs.declared.prove.CommittedInput.{CommittedInput}
use Rattle.circle_commands.specs.declared.prove.Input.{Input}
use Rattle.circle_commands.specs.declared.prove.Trace.{Trace}
use Rattle.circle_commands.specs.declared.verify.Input.{Input as Claims}

-- rows with a standard domain of as many points
pub record ArePlaced {g : _} (given : List (Vec Mersenne31 Global))
    (e : CircleDomain Mersenne31 g × RowMajorMatrix Mersenne31) : Type 0 where
  pub content : rows e.1 ≡ lists given
  pub height : height_of e.1 ≡ 2 ^ log_size e.0
  pub standard : shift_of e.0 ≡ generators (log_size e.0 + 1)

-- the matrix is the extension of the given rows from the standard domain of as many points
pub record IsExtended (blowup : ℕ) (given : List (List Mersenne31))
    (made : RowMajorMatrix Mersenne31) : Type 0 where
  pub log_n : ℕ
  pub width : ℕ
  pub height : length given ≡ 2 ^ log_n
  pub extends :
      IsExtensionOf operations generators blowup log_n (generators (log_n + 1)) width given made

-- each matrix has a point
abbrev pub HavePoints : Input → Type 0
HavePoints input = All (λ b. All (λ t. 1 ≤ length t.points.items) b.items) input.batches.items

-- the points of matrices
abbrev pub points_of : List Trace → List (List Cubic)
points_of traces = map (λ t. t.points.items) traces

-- the logarithms of their numbers of rows
abbrev pub logs_of : List Trace → List ℕ
logs_of traces = map (λ t. log_of (length t.rows.items)) traces

-- what a verifier knows of a batch: its commitment, and of each matrix the size and the points
abbrev pub known_of : Committed → List ℕ × List (ℕ × List Cubic)
known_of c = (c.commitment, zip (logs_of c.traces.now) (points_of c.traces.now))

abbrev pub known_told : CommittedBatch Cubic (List ℕ) ℕ → List ℕ × List (ℕ × List Cubic)
known_told b = (b.commitment, zip b.domains.items (lists_of b.points.items))

-- the challenger's state once it has absorbed the commitments of batches, in order
abbrev pub after_batches : List ℕ → List Committed → List ℕ
after_batches s batches = after_commitments s (map (λ b. b.commitment) batches)

-- the commitments that claims are about, in order
abbrev pub commitments_of : Claims → List (List ℕ)
commitments_of claims = map (λ b. b.commitment) claims.batches.items

-- the claims that matrices have these values at their points
abbrev pub matrix_claimed : Trace → List (List Cubic) → MatrixClaim Cubic
matrix_claimed t values = record {
  log_n = log_of (length t.rows.items);
  claims = pairwise claim_of t.points.items values;
}

abbrev pub batch_claimed : Committed → List (List (List Cubic)) → BatchClaim (List ℕ) Cubic
batch_claimed c values = record {
  commitment = c.commitment;
  matrices = pairwise matrix_claimed c.traces.now values;
}

-- a batch is committed to: under its commitment are the extensions of its matrices
pub record IsCommitted (mmcs : ShaMmcs Mersenne31) (blowup : ℕ) (traces : List Trace)
    (c : Committed) : Type 0 where
  pub given : c.traces.now ≡ traces
  pub fitting : All HasFittingRows traces
  pub commitment : preset.schemes.Commits mmcs (matrices_of c.kept) c.commitment
  pub extended :
      AllZip (λ t made. IsExtended blowup (lists t.rows.items) made) traces (matrices_of c.kept)
  pub powers : HaveHeightsOfPowers (matrices_of c.kept)

-- each batch is committed to
abbrev pub AreCommitted : ShaMmcs Mersenne31 → ℕ → List (Vec Trace Global) → List Committed →
    Type 0
AreCommitted mmcs blowup batches committed =
    AllZip (λ b c. IsCommitted mmcs blowup b.items c) batches committed

-- a batch's matrices are requested at their points
pub record IsRequested (c : Committed) (r : OpeningRequest preset.Kept Cubic) : Type 0 where
  pub matrices : preset.schemes.kept r.prover_data.now ≡ matrices_of c.kept
  pub points : lists_of r.points.items ≡ points_of c.traces.now

-- the scheme with the input's parameters has committed to its batches
pub record IsCommittedInput (c : CommittedInput) : Type 0 where
  pub params : c.scheme.fri_params ≡ with_scheme c.input.now.params c.scheme.fri_params.mmcs
  pub batches :
      AreCommitted c.scheme.mmcs c.scheme.fri_params.log_blowup c.input.now.batches.items
      c.batches.items

-- the commitments are to the input's batches, in order
pub record AreCommitments (input : Input) (commitments : List (List ℕ)) : Type 0 where
  pub mmcs : ShaMmcs Mersenne31
  pub committed : List Committed
  pub batches : AreCommitted mmcs input.params.log_blowup input.batches.items committed
  pub are : commitments ≡ map (λ b. b.commitment) committed

-- the batches are committed to so, and opened from a challenger in the one state, which leaves it
-- in the other; the claims state the commitments, the points and the values, and the proof is
-- theirs
pub record AreOpened (input : Input) (output : Claims) (committed : List Committed)
    (old new : List ℕ) : Type 0 where
  pub mmcs : ShaMmcs Mersenne31
  pub scheme : ShaMmcs Cubic
  pub requests : List (OpeningRequest preset.Kept Cubic)
  pub values : Openings Cubic
  pub batches : AreCommitted mmcs input.params.log_blowup input.batches.items committed
  pub asked : AllZip IsRequested committed requests
  pub answered :
      AllZip (AreAnswers preset.schemes.kept preset.schemes.fields input.params.log_blowup) requests
      values
  pub opened :
      IsOpening (with_scheme input.params scheme) preset.schemes.kept requests values
      preset.schemes.fields preset.schemes.run (proof_of output.proof)
      (preset.schemes.Commits mmcs) (preset.schemes.authenticates mmcs)
      (preset.schemes.WordCommits scheme) (preset.schemes.word_authenticates scheme) old new
  pub claims : batches_told output.batches.items ≡ pairwise batch_claimed committed values
  pub params : output.params ≡ input.params

-- they are committed to and opened from a challenger in the one state
abbrev pub IsProvedFrom : Input → Claims → List ℕ → List ℕ → Type 0
IsProvedFrom input output old new =
    (committed : List Committed) × AreOpened input output committed old new

-- and from the challenger that has absorbed the commitments alone
pub record IsProved (input : Input) (output : Claims) : Type 0 where
  pub committed : List Committed
  pub start : Sha256Challenger
  pub left : Sha256Challenger
  pub taken : state_of start ≡ after_batches (replicate 32 0) committed
  pub opened : AreOpened input output committed (state_of start) (state_of left)
