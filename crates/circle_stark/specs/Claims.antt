-- What a proof claims at the drawn point.
use Rattle.std.specs.Prelude.{ℕ, List, [], ◌∷◌, map}
use Rattle.circle_relation.specs.Statement.{BatchClaim, MatrixClaim, PointClaim}
use Rattle.circle_stark.specs.Statement.{Proved}

-- the claims on one matrix of 2^n rows, and the claim that it has these values at a point
abbrev pub claimed : {E : Type 0} → ℕ → List (PointClaim E) → MatrixClaim E
claimed n claims = record { log_n = n; claims = claims }

abbrev pub at : {E : Type 0} → E → List E → PointClaim E
at point values = record { point = point; values = values }

-- the claims of a proof: the trace at the drawn point and the next one, and each chunk of the
-- quotient at the drawn point
abbrev pub claims_at : {F E IC WC IP WP : Type 0} → ℕ → Proved F E IC WC IP WP → E → E
    → List (BatchClaim IC E)
claims_at n p zeta next =
    record {
      commitment = p.trace;
      matrices = claimed n (at zeta p.opened.local ∷ at next p.opened.next ∷ []) ∷ [];
    }
    ∷ record {
      commitment = p.quotient;
      matrices = map (λ chunk. claimed n (at zeta chunk ∷ [])) p.opened.chunks;
    }
    ∷ []
