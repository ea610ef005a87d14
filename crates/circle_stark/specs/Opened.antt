-- Opened values as an opening returns them: the trace's at both points, and each chunk's at one.
use Rattle.std.specs.Prelude.{◌≡◌, ℕ, List, [], ◌∷◌, length, map, replicate, All}
use Rattle.circle_commit.specs.Honest.{requested_points}
use Rattle.circle_commit.specs.Pcs.{Openings}
use Rattle.circle_commit.specs.declared.pcs.OpeningRequest.{OpeningRequest}
use Rattle.circle_stark.specs.Statement.{OpenedValues}

-- by batch, matrix and point
abbrev pub opened_lists : {E : Type 0} → OpenedValues E → Openings E
opened_lists v =
    ((v.local ∷ v.next ∷ []) ∷ []) ∷ map (λ chunk. chunk ∷ []) v.chunks ∷ []

-- there are two batches, of one matrix at two points, and of matrices at one point each
pub record IsOpenedOf {E : Type 0} (values : Openings E) : Type 0 where
  pub trace : List (List E)
  pub quotient : List (List (List E))
  pub batches : values ≡ (trace ∷ []) ∷ quotient ∷ []
  pub both : length trace ≡ 2
  pub each : All (λ chunk. length chunk ≡ 1) quotient

-- Gives says what a scheme's opening returns from one state for requests, which leaves another, and
-- AreTrue which values are those of the batches that were committed to
module _ {S D E Proof : Type 0}
    (Gives : List (OpeningRequest D E) → S → Openings E → Proof → S → Type 0)
    (AreTrue : List (OpeningRequest D E) → Openings E → Type 0) where
  -- the values v are opened of what is kept of a trace and of its quotient in count chunks: of the
  -- trace at zeta and next, and of each chunk at zeta
  pub record IsOpenedRun (trace quotient : D) (count : ℕ) (zeta next : E) (v : OpenedValues E)
      (proof : Proof) (old new : S) : Type 0 where
    pub requests : List (OpeningRequest D E)
    pub kept : map (λ r. r.prover_data.now) requests ≡ trace ∷ quotient ∷ []
    pub points :
        map requested_points requests
        ≡ ((zeta ∷ next ∷ []) ∷ []) ∷ replicate count (zeta ∷ []) ∷ []
    pub given : Gives requests old (opened_lists v) proof new
    pub values : AreTrue requests (opened_lists v)
