-- The quotient of a trace's constraints, its chunks, and the identity that ties their values at a
-- point to the columns' (Circle STARKs, IACR ePrint 2024/278, section 5.1).
use Rattle.std.specs.Prelude.{◌≡◌, ◌≢◌, ℕ, ◌+◌, ◌*◌, ◌^◌, ◌<◌, List, [], length, map, take, All}
use Rattle.std.specs.Prelude.{Some}
use Rattle.std.specs.Prelude.{slice_get, slice_index_or}
use Rattle.circle_field.specs.Field.{FieldOps}
use Rattle.circle_field.specs.Circle.{Coordinates, lifted}
use Rattle.circle_point.specs.Basis.{value, vanishing}
use Rattle.circle_domain.specs.Order.{natural_order}
use Rattle.circle_point.specs.Projective.{from_line}
use Rattle.circle_domain.specs.Selectors.{IsFinite}
use Rattle.circle_domain.specs.Splitting.{part_of}
use Rattle.circle_folding.specs.Claims.{AreDistinct}
use Rattle.circle_folding.specs.WideSpans.{wide_value}
use Rattle.circle_air.specs.Parts.{Parts}
use Rattle.circle_air.specs.Satisfies.{Satisfies}
use Rattle.circle_air.specs.Values.{Window}
use Rattle.circle_quotient.specs.Composition.{composition}
use Rattle.circle_quotient.specs.Recomposition.{recomposed}
use Rattle.circle_quotient.specs.Window.{AreColumnsOf, IsWindowOf, IsWindowAt, selectors_at}
use Rattle.circle_quotient.specs.Window.{next_point}

module _ {F E : Type 0} (k : FieldOps F) (gen : ℕ → Coordinates F) (l : FieldOps E) (embed : F → E)
    (n log_chunks : ℕ) where
  -- the points of the quotient's domain, 2^log_chunks times as many as the trace has rows
  abbrev pub quotient_points : List (Coordinates F)
  quotient_points = natural_order k gen (n + log_chunks) (gen (n + log_chunks + 1))

  -- the values of the trace's vanishing polynomial on the domain's parts
  abbrev pub values_of_parts : List E
  values_of_parts =
      map (λ s. embed (vanishing k n s)) (take (2 ^ log_chunks) quotient_points)

  -- what the constraints read at s, put together, over the vanishing polynomial
  abbrev pub quotient_at : Parts F → E → Coordinates F → Window E → E
  quotient_at p alpha s w =
      l.mul (composition l embed p w (selectors_at k gen l embed n (lifted embed s)) alpha)
      (l.inv (vanishing l n (lifted embed s)))

  -- on the quotient's domain, the constraints put together over the vanishing polynomial
  pub record AreQuotientValues (p : Parts F) (columns : List (List F)) (public : List F) (alpha : E)
      (values : List E) : Type 0 where
    pub count : length values ≡ 2 ^ (n + log_chunks)
    pub each : (i : ℕ) (s : Coordinates F) → slice_get quotient_points i ≡ Some s →
        (w : Window E) → IsWindowAt k gen l embed n p columns public (lifted embed s) w →
        slice_get values i ≡ Some (quotient_at p alpha s w)

  -- as many coefficients as the trace has rows, for each part those of its values
  pub record AreChunksOf (values : List E) (chunks : List (List E)) : Type 0 where
    pub count : length chunks ≡ 2 ^ log_chunks
    pub counts : All (λ c. length c ≡ 2 ^ n) chunks
    pub each : (i : ℕ) (s : Coordinates F) → slice_get quotient_points i ≡ Some s →
        slice_get values i
        ≡ Some (value l (slice_index_or chunks (part_of (2 ^ log_chunks) i) []) (lifted embed s))

  -- at q the constraints put together are the vanishing polynomial times the chunks put together
  abbrev pub HasIdentity :
      Parts F → List (List F) → List F → E → List (List E) → Coordinates E → Type 0
  HasIdentity p columns public alpha chunks q =
      (w : Window E) → IsWindowAt k gen l embed n p columns public q w →
      let x = vanishing l n q in
      composition l embed p w (selectors_at k gen l embed n q) alpha
      ≡ l.mul x (recomposed l values_of_parts (map (λ c. value l c q) chunks) x)

-- coefficients, and a multiple of the vanishing polynomial
pub record WideColumn (F : Type 0) : Type 0 where
  pub coefficients : List F
  pub multiple : F

module _ {F E : Type 0} (k : FieldOps F) (gen : ℕ → Coordinates F) (l : FieldOps E) (embed : F → E)
    (n log_chunks : ℕ) where
  -- the value of such a column at q
  abbrev pub wide_at : WideColumn F → Coordinates E → E
  wide_at c q = wide_value l n (map embed c.coefficients) (embed c.multiple) q

  -- what constraints read at q of columns that may have such multiples
  abbrev pub IsWideWindowAt :
      Parts F → List (WideColumn F) → List F → Coordinates E → Window E → Type 0
  IsWideWindowAt p columns public q =
      IsWindowOf k gen l embed n p public q (map (λ c. wide_at c q) columns)
      (map (λ c. wide_at c (next_point k gen l embed n q)) columns)

  abbrev pub HasWideIdentity :
      Parts F → List (WideColumn F) → List F → E → List (WideColumn E) → Coordinates E → Type 0
  HasWideIdentity p columns public alpha chunks q =
      (w : Window E) → IsWideWindowAt p columns public q w →
      let x = vanishing l n q in
      composition l embed p w (selectors_at k gen l embed n q) alpha
      ≡ l.mul x (recomposed l (values_of_parts k gen l embed n log_chunks)
      (map (λ c. wide_value l n c.coefficients c.multiple q) chunks) x)

  -- for one challenge: chunks, and coordinates at which the identity holds, which are more than the
  -- degree of both sides allows where they differ
  pub record HasEvidence (p : Parts F) (columns : List (WideColumn F)) (public : List F)
      (alpha : E) : Type 0 where
    pub chunks : List (WideColumn E)
    pub counts : All (λ c. length c.coefficients ≡ 2 ^ n) chunks
    pub coordinates : List E
    pub enough : (2 ^ log_chunks + 1) * 2 ^ n < length coordinates
    pub distinct : AreDistinct coordinates
    pub finite : All (IsFinite l) coordinates
    pub off : All (λ t. vanishing l n (from_line l t) ≢ l.zero) coordinates
    pub identity : All (λ t. HasWideIdentity p columns public alpha chunks (from_line l t))
        coordinates

  -- rows of the columns' values on the trace's domain, on which the multiples don't count
  abbrev pub AreRowsOf : List (List F) → List (WideColumn F) → Type 0
  AreRowsOf rows columns = AreColumnsOf k gen n rows (map (λ c. c.coefficients) columns)

-- what rows that satisfy the constraints give, and what the identity says of rows
module _ {F E : Type 0} (k : FieldOps F) (gen : ℕ → Coordinates F) (l : FieldOps E) (embed : F → E)
    (n log_chunks : ℕ) (p : Parts F) (rows : List (List F)) (public : List F) where
  -- of the rows' polynomials, the quotient's values under alpha and their chunks: the identity at q
  abbrev pub Recomposes : E → Coordinates E → Type 0
  Recomposes alpha q =
      (columns : List (List F)) (values : List E) (chunks : List (List E)) →
      AreColumnsOf k gen n rows columns → length columns ≡ p.width →
      AreQuotientValues k gen l embed n log_chunks p columns public alpha values →
      AreChunksOf k gen l embed n log_chunks values chunks →
      HasIdentity k gen l embed n log_chunks p columns public alpha chunks q

  -- where there is evidence for each of these challenges, of columns with the rows as values, the
  -- rows satisfy the constraints
  abbrev pub Binds : List E → Type 0
  Binds alphas =
      (columns : List (WideColumn F)) → length columns ≡ p.width →
      All (λ c. length c.coefficients ≡ 2 ^ n) columns →
      AreRowsOf k gen l embed n log_chunks rows columns →
      All (HasEvidence k gen l embed n log_chunks p columns public) alphas →
      Satisfies k p rows public
