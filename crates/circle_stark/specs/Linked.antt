-- The identity of opened values, and that of the polynomials that they are values of.
use Rattle.std.specs.Prelude.{◌≡◌, ℕ, ◌^◌, List, length, map, slice_index_or, All}
use Rattle.std.specs.List.{range_with_len}
use Rattle.circle_commit.specs.DotProduct.{dot}
use Rattle.circle_domain.specs.Selectors.{next_from}
use Rattle.circle_field.specs.Circle.{Coordinates}
use Rattle.circle_field.specs.Field.{FieldOps}
use Rattle.circle_point.specs.Projective.{from_line, to_line}
use Rattle.circle_quotient.specs.Basis.{AreBasis}
use Rattle.circle_quotient.specs.Identity.{HasWideIdentity, WideColumn, wide_at}
use Rattle.circle_stark.specs.Statement.{OpenedValues, Statement}

module _ {F E : Type 0} (k : FieldOps F) (gen : ℕ → Coordinates F) (l : FieldOps E) (embed : F → E)
    (n log_chunks : ℕ) where
  -- the columns' values at the point of the coordinate t
  abbrev pub values_on_line : List (WideColumn F) → E → List E
  values_on_line columns t =
      map (λ c. wide_at k gen l embed n log_chunks c (from_line l t)) columns

  -- the opened values are those of the trace's columns at zeta and at the next coordinate, and
  -- those of each chunk's columns at zeta
  pub record OpensColumns (columns : List (WideColumn F)) (chunks : List (List (WideColumn F)))
      (zeta next : E) (v : OpenedValues E) : Type 0 where
    pub local : v.local ≡ values_on_line columns zeta
    pub next_row : v.next ≡ values_on_line columns next
    pub of_chunks : v.chunks ≡ map (λ chunk. values_on_line chunk zeta) chunks

  -- a chunk as one column of elements, whose entries are those of its columns, each times its
  -- element of the basis, added up
  abbrev pub combined_chunk : List E → List (WideColumn F) → WideColumn E
  combined_chunk basis columns =
      let combined = λ (entry : WideColumn F → F).
      dot l basis (map (λ c. embed (entry c)) columns) in
      record {
        coefficients =
            map (λ i. combined (λ c. slice_index_or c.coefficients i k.zero))
            (range_with_len 0 (2 ^ n));
        multiple = combined (λ c. c.multiple);
      }

module _ {F E : Type 0} (k : FieldOps F) (gen : ℕ → Coordinates F) (l : FieldOps E) (embed : F → E)
    (coefficients : E → List F) (degree log_chunks : ℕ) (s : Statement F) where
  -- the values v are opened of the columns at the point of zeta and the next one
  abbrev pub AreOpenedOf : List (WideColumn F) → List (List (WideColumn F)) → E → OpenedValues E
      → Type 0
  AreOpenedOf columns chunks zeta =
      OpensColumns k gen l embed s.log_n log_chunks columns chunks zeta
      (to_line l (next_from l embed gen s.log_n zeta))

  -- whatever the columns of which the values v are opened, where those of chunks have 2^log_n
  -- coefficients: at the point of zeta the identity holds of the columns and the combined chunks
  abbrev pub HoldsOfColumns : OpenedValues E → E → E → Type 0
  HoldsOfColumns v alpha zeta =
      (columns : List (WideColumn F)) (chunks : List (List (WideColumn F))) (basis : List E) →
      All (All (λ c. length c.coefficients ≡ 2 ^ s.log_n)) chunks →
      AreBasis k coefficients degree basis → AreOpenedOf columns chunks zeta v →
      HasWideIdentity k gen l embed s.log_n log_chunks s.parts columns s.public_values alpha
      (map (combined_chunk k gen l embed s.log_n log_chunks basis) chunks) (from_line l zeta)
