-- What the command `verify` hands to the verifier.
use Rattle.std.proofs.Common.{◌≡◌, ℕ, ◌⊎◌, ⊎_elim, List, ap, inl, inr}
use Rattle.std.proofs.Common.{replicate, subst, sym, ◌∙◌}
use Rattle.circle_air.specs.Parts.{Parts, parts_of}
use Rattle.circle_commands.proofs.Verified.{one_scheme}
use Rattle.circle_commands.specs.Chosen.{preset}
use Rattle.circle_commit.specs.Parameters.{with_scheme}
use Rattle.circle_commit.specs.declared.params.FriParameters.{FriParameters}
use Rattle.circle_field.specs.declared.cubic.Cubic.{Cubic}
use Rattle.circle_field.specs.declared.mersenne31.Mersenne31.{Mersenne31}
use Rattle.circle_merkle.specs.declared.mmcs.ShaMmcs.{ShaMmcs}
use Rattle.circle_stark.specs.Accepts.{StarkAccepts}
use Rattle.circle_stark.specs.Statement.{Statement, proved_of}
use Rattle.circle_stark.specs.declared.error.StarkError.TheVariants as stark
use Rattle.stark_commands.specs.Preset.{ProofError}
use Rattle.stark_commands.specs.Reasons.{IsUnverifiedBy, IsVerifyRefusal, IsVerifyRefusalFrom}
use Rattle.stark_commands.specs.Refused.{IsRefusalOfProof}
use Rattle.stark_commands.specs.Verified.{HasAir, IsAcceptedFrom, IsUnverified, IsUnverifiedFrom}
use Rattle.stark_commands.specs.Verified.{IsVerified, IsVerifiedFrom, described}
use Rattle.stark_commands.specs.Verified.{statement_given}
use Rattle.stark_commands.specs.declared.verify.Input.{Input}
use Rattle.stark_commands.specs.declared.verify.Refusal.{Refusal}
use Rattle.stark_commands.specs.declared.verify.Refusal.TheVariants.{Air, Memory, Proof}

-- a statement of as many rows as the input's
abbrev pub stated_by : Input → Parts Mersenne31 → List Mersenne31 → Statement Mersenne31
stated_by input parts public = record {
  parts = parts;
  log_n = input.log_n;
  public_values = public;
}

-- of the input's AIR and public values it is the input's
pub stated : (input : Input) (parts : Parts Mersenne31) (public : List Mersenne31) →
    parts ≡ parts_of input.air → public ≡ input.public_values.items →
    stated_by input parts public ≡ statement_given input
stated input parts public same given =
    ap (λ (p : Parts Mersenne31). stated_by input p public) same
    ∙ ap (λ (v : List Mersenne31). stated_by input (parts_of input.air) v) given

module _ (input : Input) where
  abbrev pub Accepts : ShaMmcs Mersenne31 → FriParameters (ShaMmcs Cubic) → Statement Mersenne31 →
      List ℕ → List ℕ → Type 0
  Accepts mmcs params s old new =
      StarkAccepts preset.schemes.fields params preset.schemes.run preset.schemes.run
      (preset.schemes.authenticates mmcs) (preset.schemes.word_authenticates params.mmcs)
      (described s) s (proved_of input.proof) old new

  module _ (s : Statement Mersenne31) (mmcs : ShaMmcs Mersenne31) (scheme : ShaMmcs Cubic)
      (params : FriParameters (ShaMmcs Cubic)) (old new : List ℕ) (is : s ≡ statement_given input)
      (same : params ≡ with_scheme input.params scheme) where
    -- what is accepted of the input's statement under its parameters is verified
    pub verified : HasAir input → Accepts mmcs params s old new → IsVerifiedFrom input old new
    verified air a = record {
      air = air;
      mmcs = mmcs;
      scheme = scheme;
      accepts =
          subst (λ t. Accepts mmcs (with_scheme input.params scheme) t old new) is
          (subst (λ p. Accepts mmcs p s old new) same a);
    }

    -- what is verified is accepted
    pub accepted : IsVerifiedFrom input old new → Accepts mmcs params s old new
    accepted v =
        let of_schemes =
        subst
        (λ m. Accepts m (with_scheme input.params v.scheme) (statement_given input) old new)
        (one_scheme v.mmcs mmcs) v.accepts in
        let of_params =
        subst (λ p. Accepts mmcs p (statement_given input) old new)
        (ap (with_scheme input.params) (one_scheme v.scheme scheme) ∙ sym same) of_schemes in
        subst (λ t. Accepts mmcs params t old new) (sym is) of_params

  -- what is verified from a new challenger
  pub verified-new : (old new : List ℕ) → old ≡ replicate 32 0 → IsVerifiedFrom input old new →
      IsVerified input
  verified-new old new begun v = subst (IsAcceptedFrom input) begun (new, v)

  pub accepted-new : (old : List ℕ) → old ≡ replicate 32 0 → IsVerified input →
      IsAcceptedFrom input old
  accepted-new old begun v = subst (IsAcceptedFrom input) (sym begun) v

-- a refused proof is a refused input, but where it is memory that is refused
pub never_of_verified : (V : Type 0) (error : ProofError) (reason : Refusal) →
    IsRefusalOfProof Proof Memory error reason → (V → error ≡ stark.Memory) → V → reason ≡ Memory
never_of_verified V error reason is complete v =
    ⊎_elim (λ memory. memory.1) (λ other. absurd (other.0 (complete v))) is

pub proof_refused : (input : Input) (V : Type 0) (Refuses : ProofError → Type 0)
    (error : ProofError) (reason : Refusal) → IsRefusalOfProof Proof Memory error reason →
    HasAir input → (V → error ≡ stark.Memory) → Refuses error →
    (reason ≡ Memory) ⊎ IsUnverifiedBy V Refuses input reason
proof_refused input V Refuses error reason is air complete refused =
    ⊎_elim (λ memory. inl memory.1)
    (λ other. inr (subst (IsUnverifiedBy V Refuses input) (sym other.1)
    (air, (λ v. other.0 (complete v), (other.0, refused))))) is

-- what is refused for some errors is so for others that these are
unverified_by : (V W : Type 0) (Refuses Other : ProofError → Type 0) (input : Input) → (W → V) →
    ((error : ProofError) → Refuses error → Other error) → (e : Refusal) →
    IsUnverifiedBy V Refuses input e → IsUnverifiedBy W Other input e
unverified_by V W Refuses Other input back then (Air error) h = h
unverified_by V W Refuses Other input back then (Proof error) h =
    (h.0, (λ w. h.1.0 (back w), (h.1.1.0, then error h.1.1.1)))
unverified_by V W Refuses Other input back then Memory h = absurd h

-- what is refused from a new challenger
pub unverified-new : (input : Input) (old new : List ℕ) → old ≡ replicate 32 0 → (e : Refusal) →
    (e ≡ Memory) ⊎ IsVerifyRefusalFrom input old new e → (e ≡ Memory) ⊎ IsVerifyRefusal input e
unverified-new input old new begun e refused =
    ⊎_elim (λ none. inl none)
    (λ u. inr (unverified_by (IsAcceptedFrom input old) (IsVerified input)
    (IsUnverifiedFrom input old new) (IsUnverified input) input (accepted-new input old begun)
    (λ error r. (new, subst (λ (s : List ℕ). IsUnverifiedFrom input s new error) begun r)) e u))
    refused
