-- What is proved of a statement is proved of the claim that it states.
use Rattle.std.specs.Prelude.{◌≡◌, ℕ, List, [], ◌∷◌, Vec, replicate}
use Rattle.std.specs.declared.alloc.Global.{Global}
use Rattle.std.proofs.Common.{◌∙◌, ap, subst, sym}
use Rattle.circle_air.specs.Parts.{Parts}
use Rattle.circle_airs.specs.Fibonacci.{fibonacci_parts}
use Rattle.circle_callers.specs.Preset.{Scheme}
use Rattle.circle_callers.specs.Sums.{IsProofOf, schemes, statement}
use Rattle.circle_callers.specs.declared.claim.Claim.{Claim}
use Rattle.circle_field.specs.declared.cubic.Cubic.{Cubic}
use Rattle.circle_field.specs.declared.mersenne31.Mersenne31.{Mersenne31}
use Rattle.circle_merkle.specs.declared.mmcs.ShaMmcs.{ShaMmcs}
use Rattle.circle_stark.specs.Accepts.{Accepts}
use Rattle.circle_stark.specs.Statement.{Statement, proved_of}
use Rattle.circle_stark.specs.declared.proof.StarkProof.{StarkProof}

-- a statement of so many rows
abbrev pub of_parts : Parts Mersenne31 → ℕ → List Mersenne31 → Statement Mersenne31
of_parts parts log_n public = record {
  parts = parts;
  log_n = log_n;
  public_values = public;
}

-- with the claim's parts it is the claim's
pub stated : (claim : Claim) (parts : Parts Mersenne31) (log_n : ℕ) (public : List Mersenne31) →
    parts ≡ fibonacci_parts → log_n ≡ claim.log_n →
    public ≡ claim.first ∷ claim.second ∷ claim.last ∷ [] →
    of_parts parts log_n public ≡ statement claim
stated claim parts log_n public same log given =
    ap (λ (p : Parts Mersenne31). of_parts p log_n public) same
    ∙ ap (λ (n : ℕ). of_parts fibonacci_parts n public) log
    ∙ ap (λ (v : List Mersenne31). of_parts fibonacci_parts claim.log_n v) given

module _ {ID IE WD WE : Type 0} (pcs : Scheme) (claim : Claim)
    (proof : StarkProof Mersenne31 Cubic (ShaMmcs Mersenne31) (ShaMmcs Cubic) (List ℕ) ID
    (Vec (List ℕ) Global) IE (List ℕ) WD (Vec (List ℕ) Global) WE) (s : Statement Mersenne31)
    (start : List ℕ) (same : s ≡ statement claim) (begun : start ≡ replicate 32 0) where
  pub proved : (left : List ℕ) → Accepts schemes pcs s (proved_of proof) start left →
      IsProofOf pcs claim proof
  proved left accepts = (
    left,
    subst
        (λ (t : Statement Mersenne31). Accepts schemes pcs t (proved_of proof) (replicate 32 0)
        left) same
        (subst (λ (b : List ℕ). Accepts schemes pcs s (proved_of proof) b left) begun accepts),
  )

  pub held : IsProofOf pcs claim proof →
      (left : List ℕ) × Accepts schemes pcs s (proved_of proof) start left
  held is = (
    is.0,
    subst
        (λ (t : Statement Mersenne31). Accepts schemes pcs t (proved_of proof) start is.0)
        (sym same)
        (subst (λ (b : List ℕ). Accepts schemes pcs (statement claim) (proved_of proof) b is.0)
        (sym begun) is.1),
  )
