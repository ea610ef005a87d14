-- Claims with the rows that are opened of their matrices, and the sums of their quotients, claim
-- after claim.
use Rattle.std.specs.Prelude.{◌≡◌, ℕ, ◌+◌, ◌*◌, ◌<◌, ◌==◌, List, [], ◌∷◌, ◌++◌}
use Rattle.std.specs.Prelude.{if◌then◌else◌, length, map, flat_map, zip, All, slice_index_or}
use Rattle.circle_field.specs.Field.{FieldOps, nth_power}
use Rattle.circle_field.specs.Circle.{Coordinates}
use Rattle.circle_point.specs.Projective.{from_line}
use Rattle.circle_folding.specs.Quotient.{claim_quotient}
use Rattle.circle_folding.specs.Queries.{IsApart}
use Rattle.circle_relation.specs.Statement.{PointClaim, MatrixClaim, BatchClaim, Opened, log_height}

module _ {F E : Type 0} where
  -- a row beside each claim on it
  abbrev pub on_row : List F → List (PointClaim E) → List (PointClaim E × List F)
  on_row row claims = map (λ c. (c, row)) claims

  -- the claims on matrices of height 2^h, each with its matrix's row
  abbrev pub of_height : ℕ → ℕ → List (MatrixClaim E × List F) → List (PointClaim E × List F)
  of_height blowup h pairs =
      flat_map (λ p. if log_height blowup p.0 == h then on_row p.1 p.0.claims else []) pairs

  -- at the query in place j: those on a batch's matrices of height 2^h
  abbrev pub claims_at :
      ℕ → ℕ → List (MatrixClaim E) → List (List (List F)) → ℕ → List (PointClaim E × List F)
  claims_at blowup h matrices entries j =
      of_height blowup h (zip matrices (slice_index_or entries j []))

  -- and those on the matrices of all batches
  abbrev pub all_claims_at : {Com Proof : Type 0} →
      ℕ → ℕ → List (BatchClaim Com E × Opened (List (List F)) Proof)
      → ℕ → List (PointClaim E × List F)
  all_claims_at blowup h pairs j =
      flat_map (λ p. claims_at blowup h p.0.matrices p.1.entries j) pairs

  -- the rows that are opened at a query: one of each matrix, as long as its claims
  abbrev pub HasRowsOf : List (MatrixClaim E) → List (List F) → Type 0
  HasRowsOf matrices rows = (length rows ≡ length matrices)
      × All (λ p. All (λ c. length p.1 ≡ length c.values) p.0.claims) (zip matrices rows)

module _ {F E : Type 0} (l : FieldOps E) (embed : F → E) where
  -- no claimed point is one of these
  abbrev pub AreApartFrom : List (Coordinates F) → List (PointClaim E) → Type 0
  AreApartFrom points claims = All (λ c. IsApart embed points (from_line l c.point)) claims

  -- nor one that is claimed of a matrix of height 2^h
  abbrev pub AreApartAt : ℕ → ℕ → List (Coordinates F) → List (MatrixClaim E) → Type 0
  AreApartAt blowup h points matrices =
      All (λ m. log_height blowup m ≡ h → AreApartFrom points m.claims) matrices

  module _ (alpha : E) where
    -- the quotients of claims at a point x, each times alpha to twice the number of columns that
    -- are claimed before it, added up
    abbrev pub reduced : ℕ → Coordinates F → List (PointClaim E × List F) → E
    reduced columns x [] = l.zero
    reduced columns x (c ∷ rest) =
        let z = from_line l c.0.point in
        l.add (l.mul (nth_power l alpha (2 * columns))
        (claim_quotient l embed alpha x z c.1 c.0.values))
        (reduced (columns + length c.0.values) x rest)

    -- from old sums to new, and from an offset to the one after, by what claims at each point add:
    -- with whatever claims follow, both come to as much
    pub record Adds (points : List (Coordinates F)) (none : Coordinates F)
        (claims : ℕ → List (PointClaim E × List F)) (offset after : E)
        (old new : List E) : Type 0 where
      pub counted : length new ≡ length old
      pub added : (columns : ℕ) → offset ≡ nth_power l alpha (2 * columns) →
          (next : ℕ) × (after ≡ nth_power l alpha (2 * next))
          × ((j : ℕ) (rest : _) → j < length old →
          l.add (slice_index_or new j l.zero) (reduced next (slice_index_or points j none) rest)
          ≡ l.add (slice_index_or old j l.zero)
          (reduced columns (slice_index_or points j none) (claims j ++ rest)))
