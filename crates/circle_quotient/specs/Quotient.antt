-- The quotient's values on its domain, made of the rows there.
use Rattle.std.specs.Prelude.{◌≡◌, ℕ, ◌+◌, ◌%◌, ◌^◌, List, [], length, map, Some, slice_get}
use Rattle.std.specs.Prelude.{slice_index_or}
use Rattle.circle_field.specs.Field.{FieldOps}
use Rattle.circle_field.specs.Circle.{Coordinates, lifted}
use Rattle.circle_point.specs.Basis.{value}
use Rattle.circle_air.specs.Parts.{Parts}
use Rattle.circle_air.specs.Values.{Window}
use Rattle.circle_quotient.specs.Identity.{quotient_points, quotient_at, AreQuotientValues}
use Rattle.circle_quotient.specs.Window.{IsWindowOf}

module _ {F E : Type 0} (k : FieldOps F) (gen : ℕ → Coordinates F) (l : FieldOps E) (embed : F → E)
    (n log_chunks : ℕ) where
  -- the row of the next point of the trace's domain: 2^log_chunks rows on, and after the last come
  -- the first again
  abbrev pub next_row : List (List F) → ℕ → List F
  next_row rows i = slice_index_or rows ((i + 2 ^ log_chunks) % 2 ^ (n + log_chunks)) []

  -- at each point of the quotient's domain, the constraints over the point's row and the next row,
  -- put together, over the vanishing polynomial
  pub record AreQuotientsOf (p : Parts F) (rows : List (List F)) (public : List F) (alpha : E)
      (values : List E) : Type 0 where
    pub count : length values ≡ 2 ^ (n + log_chunks)
    pub each : (i : ℕ) (s : Coordinates F) →
        slice_get (quotient_points k gen l embed n log_chunks) i ≡ Some s → (w : Window E) →
        IsWindowOf k gen l embed n p public (lifted embed s)
        (map embed (slice_index_or rows i [])) (map embed (next_row rows i)) w →
        slice_get values i ≡ Some (quotient_at k gen l embed n log_chunks p alpha s w)

  -- the rows are at each point of the quotient's domain the values of the polynomials with these
  -- coefficients
  pub record AreValuesOf (columns rows : List (List F)) : Type 0 where
    pub height : length rows ≡ 2 ^ (n + log_chunks)
    pub each : (i : ℕ) (s : Coordinates F) →
        slice_get (quotient_points k gen l embed n log_chunks) i ≡ Some s →
        slice_index_or rows i [] ≡ map (λ c. value k c s) columns

  -- of the polynomials with these rows as values, the quotient's values
  abbrev pub AreQuotientsOfColumns : Parts F → List (List F) → List F → E → List E → Type 0
  AreQuotientsOfColumns p rows public alpha values =
      (columns : List (List F)) → AreValuesOf columns rows →
      AreQuotientValues k gen l embed n log_chunks p columns public alpha values
