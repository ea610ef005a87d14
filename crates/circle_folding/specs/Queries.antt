-- The points of queries, and quotients of the rows that are opened there.
use Rattle.std.specs.Prelude.{◌≡◌, ◌≢◌, ℕ, ◌+◌, ◌-◌, ◌/◌, ◌^◌, ◌<◌, List, [], All}
use Rattle.std.specs.Prelude.{length, map, slice_index_or}
use Rattle.std.specs.List.{Any}
use Rattle.circle_field.specs.Field.{FieldOps}
use Rattle.circle_field.specs.Circle.{Coordinates, origin, lifted}
use Rattle.circle_commit.specs.Mmcs.{opened_rows}
use Rattle.circle_commit.specs.DotProduct.{pairwise}
use Rattle.circle_point.specs.Point.{coordinates}
use Rattle.circle_domain.specs.Order.{cfft_order}
use Rattle.circle_folding.specs.Quotient.{claim_quotient, ArePowers}
use Rattle.circle_folding.specs.declared.reduced.Claim.{Claim}
use Rattle.circle_folding.specs.declared.reduced.MatrixRows.{MatrixRows}

-- the point of a query q below 2^high in the standard domain of 2^low points: the query without its
-- lowest bits is a place in the transform's order
abbrev pub query_point : {F : Type 0} → FieldOps F → (ℕ → Coordinates F) → ℕ → ℕ → ℕ → Coordinates F
query_point k gen low high q =
    slice_index_or (cfft_order k gen low (gen (low + 1))) (q / 2 ^ (high - low)) (origin k)

-- of the rows that are opened at each query, that of one matrix
abbrev pub rows_of : {F : Type 0} → ℕ → List (List (List F)) → List (List F)
rows_of matrix opened = map (λ rows. slice_index_or rows matrix []) opened

module _ {F : Type 0} where
  -- for each query the row of the one matrix
  abbrev pub matrix_rows : MatrixRows F → List (List F)
  matrix_rows rows = rows_of rows.matrix (opened_rows rows.opened.now)

  -- there is such a row of `width` entries at each query
  abbrev pub HaveWidth : ℕ → MatrixRows F → Type 0
  HaveWidth width rows =
      All (λ all. (rows.matrix < length all) × (length (slice_index_or all rows.matrix []) ≡ width))
      (opened_rows rows.opened.now)

module _ {F E : Type 0} (l : FieldOps E) (embed : F → E) where
  -- at each point the quotient of its row under values claimed at z
  abbrev pub claim_quotients :
      E → List (Coordinates F) → Coordinates E → List (List F) → List E → List E
  claim_quotients alpha points z rows values =
      pairwise (λ x row. claim_quotient l embed alpha x z row values) points rows

-- to each sum its entry times an offset
abbrev pub with_multiples : {E : Type 0} → FieldOps E → E → List E → List E → List E
with_multiples l offset sums entries = pairwise (λ s q. l.add s (l.mul offset q)) sums entries

module _ {F E : Type 0} {g : _} (l : FieldOps E) (embed : F → E) where
  -- to each sum the quotient of its row under the claim was added, times an offset, for any alpha
  -- with these powers
  abbrev pub AddsQuotients :
      E → List E → List (Coordinates F) → MatrixRows F → Claim E g → List E → List E → Type 0
  AddsQuotients offset powers points rows claim old new =
      (alpha : E) → ArePowers l alpha powers → new ≡ with_multiples l offset old (claim_quotients l
      embed alpha points (coordinates claim.point) (matrix_rows rows) claim.values.now)

module _ {F E : Type 0} (embed : F → E) where
  -- one of the points is z
  abbrev pub Meets : List (Coordinates F) → Coordinates E → Type 0
  Meets points z = Any (λ p. lifted embed p ≡ z) points

  -- none of the points is z
  abbrev pub IsApart : List (Coordinates F) → Coordinates E → Type 0
  IsApart points z = All (λ p. lifted embed p ≢ z) points
