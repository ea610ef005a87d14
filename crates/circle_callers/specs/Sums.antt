-- The claim about a sequence of sums: its statement, its proofs, and which sizes fit.
use Rattle.std.specs.Prelude.{◌≡◌, ℕ, ◌+◌, ◌^◌, ◌<◌, ◌≤◌, false, List, [], ◌∷◌, replicate, Vec}
use Rattle.std.specs.declared.alloc.Global.{Global}
use Rattle.circle_airs.specs.Fibonacci.{fibonacci_parts, term}
use Rattle.circle_callers.specs.Preset.{Scheme}
use Rattle.circle_callers.specs.contracts.claim.ChallengerHasSchemes.TheImpl as chosen
use Rattle.circle_callers.specs.declared.claim.Claim.{Claim}
use Rattle.circle_challenger.specs.declared.sha256.Sha256Challenger.{Sha256Challenger}
use Rattle.circle_commit.specs.declared.params.FriParameters.{FriParameters}
use Rattle.circle_field.specs.Mersenne31.{operations}
use Rattle.circle_field.specs.declared.cubic.Cubic.{Cubic}
use Rattle.circle_field.specs.declared.mersenne31.Mersenne31.{Mersenne31}
use Rattle.circle_merkle.specs.declared.mmcs.ShaMmcs.{ShaMmcs}
use Rattle.circle_prover.specs.Requesting.{is_unfit}
use Rattle.circle_stark.specs.Accepts.{Accepts}
use Rattle.circle_stark.specs.Schemes.{Schemes}
use Rattle.circle_stark.specs.Statement.{Statement, proved_of}
use Rattle.circle_stark.specs.declared.proof.StarkProof.{StarkProof}

-- what contracts see of the scheme and its challenger
abbrev pub schemes : Schemes Scheme Sha256Challenger (List ℕ) Mersenne31 Cubic
schemes = chosen.ghosts.schemes

-- the claim of the term that the sequence has
abbrev pub true_claim : Mersenne31 → Mersenne31 → ℕ → Claim
true_claim first second n = record {
  log_n = n;
  first = first;
  second = second;
  last = term operations first second (2 ^ n);
}

-- a table of 2^log_n rows, of which each begins with the second entry of the one before and goes on
-- with the sum of both, begins with the first two terms and ends with the last
abbrev pub statement : Claim → Statement Mersenne31
statement claim = record {
  parts = fibonacci_parts;
  log_n = claim.log_n;
  public_values = claim.first ∷ claim.second ∷ claim.last ∷ [];
}

-- the relation `StarkAccepts` holds of the claim and the proof, from a challenger that has absorbed
-- nothing, whatever state is left
abbrev pub IsProofOf : {ID IE WD WE : Type 0} → Scheme → Claim
    → StarkProof Mersenne31 Cubic (ShaMmcs Mersenne31) (ShaMmcs Cubic) (List ℕ) ID
    (Vec (List ℕ) Global) IE (List ℕ) WD (Vec (List ℕ) Global) WE
    → Type 0
IsProofOf pcs claim proof =
    (left : List ℕ)
    × Accepts schemes pcs (statement claim) (proved_of proof) (replicate 32 0) left

-- the prover supports the parameters, and under them 2^n rows are enough to be folded and few
-- enough to be extended
pub record Fits {M : Type 0} (params : FriParameters M) (n : ℕ) : Type 0 where
  pub supported : is_unfit params ≡ false
  pub large : 2 + params.log_final_poly_len ≤ n
  pub extended : n + params.log_blowup < 31
