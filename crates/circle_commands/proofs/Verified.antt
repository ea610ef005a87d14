-- What the program hands to the verifier.
use Rattle.std.proofs.Common.{◌≡◌, ℕ, List, Result, Ok, Err, IfErr, IsErrAnd, refl, ap, sym}
use Rattle.std.proofs.Common.{subst, ◌∙◌, replicate}
use Rattle.circle_field.specs.declared.cubic.Cubic.{Cubic}
use Rattle.circle_field.specs.declared.mersenne31.Mersenne31.{Mersenne31}
use Rattle.circle_challenger.specs.Sha256Challenger.{state_of}
use Rattle.circle_commit.specs.Parameters.{with_scheme}
use Rattle.circle_commit.specs.declared.params.FriParameters.{FriParameters}
use Rattle.circle_commit.specs.declared.pcs.CommitmentOpening.{CommitmentOpening}
use Rattle.circle_merkle.specs.declared.mmcs.ShaMmcs.{ShaMmcs}
use Rattle.circle_relation.specs.Accepts.{AcceptsFrom}
use Rattle.circle_relation.specs.RunOf.{proof_of}
use Rattle.circle_relation.specs.Statement.{BatchClaim}
use Rattle.circle_relation.specs.StatementOf.{batch_claims}
use Rattle.circle_commit.specs.declared.error.FriError.TheVariants.{Memory}
use Rattle.circle_commands.specs.Chosen.{preset}
use Rattle.circle_commands.specs.Failure.{IsFailureOfRefusal, IsRefusedFor}
use Rattle.circle_commands.specs.Preset.{Scheme, VerifierError}
use Rattle.circle_commands.specs.Reasons.{IsOfVerify}
use Rattle.circle_commands.specs.Verified.{IsUnverified, IsUnverifiedFrom, IsVerified}
use Rattle.circle_commands.specs.Verified.{IsVerifiedFrom, after_claims, batches_told}
use Rattle.circle_commands.specs.declared.failure.Failure.{Failure}
use Rattle.circle_commands.specs.declared.failure.Failure.TheVariants.{Usage, Json, Unfit, Refused}
use Rattle.circle_commands.specs.declared.failure.Failure.TheVariants.{Input as Unread}
use Rattle.circle_commands.specs.declared.failure.Failure.TheVariants.{Memory as NoMemory}
use Rattle.circle_commands.specs.declared.failure.Reason.TheVariants as reason
use Rattle.circle_commands.specs.declared.verify.Input.{Input}

-- the commitment of claims
abbrev pub commitment_of : CommitmentOpening Cubic (List ℕ) ℕ → List ℕ
commitment_of claims = claims.commitment

-- the type of its entries fixes a scheme
pub one_scheme : {F : Type 0} (a b : ShaMmcs F) → a ≡ b
one_scheme a b = refl

module _ (input : Input) where
  -- what the scheme refuses of the input's claims and parameters is unverified
  pub unverified : (error : VerifierError) (scheme : Scheme)
      (claims : List (CommitmentOpening Cubic (List ℕ) preset.Domain)) (old new : List ℕ) →
      scheme.fri_params ≡ with_scheme input.params scheme.fri_params.mmcs →
      batch_claims claims ≡ batches_told input.batches.items →
      preset.VerifyRefuses scheme claims input.proof old new error →
      IsUnverifiedFrom input old new error
  unverified error scheme claims old new same told refused = record {
    scheme = scheme;
    claims = claims;
    params = same;
    told = told;
    refuses = refused;
  }

  -- so from the challenger that has absorbed the commitments
  pub unverified_from : (error : VerifierError) (start left : List ℕ) →
      start ≡ after_claims (replicate 32 0) input.batches.items →
      IsUnverifiedFrom input start left error → IsUnverified input error
  unverified_from error start left taken refused =
      (left, subst (λ (s : List ℕ). IsUnverifiedFrom input s left error) taken refused)

  abbrev pub Accepts : ShaMmcs Mersenne31 → FriParameters (ShaMmcs Cubic) →
      List (BatchClaim (List ℕ) Cubic) → List ℕ → List ℕ → Type 0
  Accepts mmcs params batches old new =
      AcceptsFrom preset.schemes.fields params preset.schemes.run
      (preset.schemes.authenticates mmcs) (preset.schemes.word_authenticates params.mmcs) batches
      (proof_of input.proof) old new

  -- what is verified from the challenger that has absorbed the commitments is so from its state
  pub verified_from : (start : List ℕ) →
      start ≡ after_claims (replicate 32 0) input.batches.items → (v : IsVerified input) →
      IsVerifiedFrom input start (state_of v.left)
  verified_from start taken v =
      subst (λ (s : List ℕ). IsVerifiedFrom input s (state_of v.left)) (v.taken ∙ sym taken)
      v.verified

  module _ (claims : List (CommitmentOpening Cubic (List ℕ) preset.Domain))
      (mmcs : ShaMmcs Mersenne31) (scheme : ShaMmcs Cubic)
      (params : FriParameters (ShaMmcs Cubic)) (old new : List ℕ)
      (told : batch_claims claims ≡ batches_told input.batches.items)
      (same : params ≡ with_scheme input.params scheme) where
    -- what is accepted of the input's claims and parameters is verified
    pub verified : Accepts mmcs params (batch_claims claims) old new →
        IsVerifiedFrom input old new
    verified a = record {
      mmcs = mmcs;
      scheme = scheme;
      accepts =
          subst (λ bs. Accepts mmcs (with_scheme input.params scheme) bs old new) told
          (subst (λ p. Accepts mmcs p (batch_claims claims) old new) same a);
    }

    -- what is verified is accepted of the input's claims and parameters
    pub accepted : IsVerifiedFrom input old new →
        Accepts mmcs params (batch_claims claims) old new
    accepted v =
        let of_schemes =
        subst
        (λ m. Accepts m (with_scheme input.params v.scheme) (batches_told input.batches.items) old
        new) (one_scheme v.mmcs mmcs) v.accepts in
        let of_params =
        subst (λ p. Accepts mmcs p (batches_told input.batches.items) old new)
        (ap (with_scheme input.params) (one_scheme v.scheme scheme) ∙ sym same) of_schemes in
        subst (λ bs. Accepts mmcs params bs old new) (sym told) of_params

-- a proof that is refused, but where it is memory that is refused
pub refused-proof : {A : Type 0} (Is : VerifierError → Type 0) (r : Result A Failure)
    (e : VerifierError) → IsErrAnd r (IsFailureOfRefusal reason.Verify Memory e) →
    ((¬ (e ≡ Memory)) → Is e) → IfErr r (IsRefusedFor (IsOfVerify Is))
refused-proof Is (Ok x) e is then = absurd is
refused-proof Is (Err Usage) e is then = absurd is
refused-proof Is (Err Unread) e is then = absurd is
refused-proof Is (Err Json) e is then = absurd is
refused-proof Is (Err (Unfit error)) e is then = absurd is
refused-proof Is (Err (Refused why)) e is then = subst (IsOfVerify Is) (sym is.0) (then is.1)
refused-proof Is (Err NoMemory) e is then = tt
