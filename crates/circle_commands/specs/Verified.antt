-- When the command `verify` accepts.
use Rattle.std.specs.Prelude.{◌≡◌, ℕ, List, map, replicate, codes}
use Rattle.circle_field.specs.declared.cubic.Cubic.{Cubic}
use Rattle.circle_field.specs.declared.mersenne31.Mersenne31.{Mersenne31}
use Rattle.circle_challenger.specs.Sha256Challenger.{state_of}
use Rattle.circle_challenger.specs.declared.sha256.Sha256Challenger.{Sha256Challenger}
use Rattle.circle_commit.specs.Parameters.{with_scheme}
use Rattle.circle_commit.specs.declared.pcs.CommitmentOpening.{CommitmentOpening}
use Rattle.circle_commit.specs.declared.pcs.MatrixOpening.{MatrixOpening}
use Rattle.circle_merkle.specs.declared.mmcs.ShaMmcs.{ShaMmcs}
use Rattle.circle_relation.specs.Accepts.{AcceptsFrom}
use Rattle.circle_relation.specs.RunOf.{proof_of}
use Rattle.circle_relation.specs.Statement.{BatchClaim, MatrixClaim}
use Rattle.circle_relation.specs.StatementOf.{batch_claims, point_claim}
use Rattle.circle_commands.specs.Chosen.{preset}
use Rattle.circle_commands.specs.Commitments.{after_commitments}
use Rattle.circle_commands.specs.Preset.{Scheme, VerifierError}
use Rattle.circle_commands.specs.declared.verify.Input.{Input}

-- the claims about matrices whose sizes are given by logarithms
abbrev pub matrix_told : MatrixOpening Cubic ℕ → MatrixClaim Cubic
matrix_told m = record { log_n = m.domain; claims = map point_claim m.points.items }

abbrev pub matrices_told : List (MatrixOpening Cubic ℕ) → List (MatrixClaim Cubic)
matrices_told matrices = map matrix_told matrices

abbrev pub batch_told : CommitmentOpening Cubic (List ℕ) ℕ → BatchClaim (List ℕ) Cubic
batch_told b = record { commitment = b.commitment; matrices = matrices_told b.matrices.items }

abbrev pub batches_told : List (CommitmentOpening Cubic (List ℕ) ℕ) →
    List (BatchClaim (List ℕ) Cubic)
batches_told batches = map batch_told batches

-- the challenger's state once it has absorbed the commitments of claims, in order
abbrev pub after_claims : List ℕ → List (CommitmentOpening Cubic (List ℕ) ℕ) → List ℕ
after_claims s batches = after_commitments s (map (λ b. b.commitment) batches)

module _ (input : Input) where
  -- the verifier accepts the proof of the input's claims from a challenger in the one state, and
  -- leaves it in the other, under the scheme's relation
  pub record IsVerifiedFrom (old new : List ℕ) : Type 0 where
    pub mmcs : ShaMmcs Mersenne31
    pub scheme : ShaMmcs Cubic
    pub accepts :
        AcceptsFrom preset.schemes.fields (with_scheme input.params scheme) preset.schemes.run
        (preset.schemes.authenticates mmcs) (preset.schemes.word_authenticates scheme)
        (batches_told input.batches.items) (proof_of input.proof) old new

  -- it does so from a challenger that has absorbed the commitments alone
  pub record IsVerified : Type 0 where
    pub start : Sha256Challenger
    pub left : Sha256Challenger
    pub taken : state_of start ≡ after_claims (replicate 32 0) input.batches.items
    pub verified : IsVerifiedFrom (state_of start) (state_of left)

  -- the scheme refuses, for this reason, the input's claims and parameters, from a challenger in
  -- the one state, and leaves it in the other
  pub record IsUnverifiedFrom (old new : List ℕ) (error : VerifierError) : Type 0 where
    pub scheme : Scheme
    pub claims : List (CommitmentOpening Cubic (List ℕ) preset.Domain)
    pub params : scheme.fri_params ≡ with_scheme input.params scheme.fri_params.mmcs
    pub told : batch_claims claims ≡ batches_told input.batches.items
    pub refuses : preset.VerifyRefuses scheme claims input.proof old new error

  -- it does so from a challenger that has absorbed the commitments alone
  abbrev pub IsUnverified : VerifierError → Type 0
  IsUnverified error =
      (left : List ℕ)
      × IsUnverifiedFrom (after_claims (replicate 32 0) input.batches.items) left error

-- the line of a proof that is accepted
abbrev pub verified_line : List ℕ
verified_line = codes "{\"verified\":true}\n"
