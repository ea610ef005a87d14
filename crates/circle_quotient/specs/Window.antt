-- What the constraints of an AIR read at a point of the circle, where a trace's columns are
-- polynomials.
use Rattle.std.specs.Prelude.{◌≡◌, ℕ, ◌+◌, ◌^◌, ◌<◌, List, [], length, map, slice_index_or}
use Rattle.circle_field.specs.Field.{FieldOps}
use Rattle.circle_field.specs.Circle.{Coordinates, plus, lifted}
use Rattle.circle_point.specs.Basis.{value}
use Rattle.circle_commit.specs.Matrix.{column}
use Rattle.circle_domain.specs.Periodic.{IsPeriodicValue}
use Rattle.circle_domain.specs.Selectors.{first_row, last_row, transition}
use Rattle.circle_domain.specs.Values.{Interpolates}
use Rattle.circle_air.specs.Parts.{Parts}
use Rattle.circle_air.specs.Values.{Window}
use Rattle.circle_quotient.specs.Composition.{Selectors}

-- the coefficients of each column of the rows, whose polynomial has its entries on the standard
-- domain of 2^n points, in natural order
pub record AreColumnsOf {F : Type 0} (k : FieldOps F) (gen : ℕ → Coordinates F) (n : ℕ)
    (rows columns : List (List F)) : Type 0 where
  pub height : length rows ≡ 2 ^ n
  pub each : (j : ℕ) → j < length columns →
      Interpolates k gen n (gen (n + 1)) (slice_index_or columns j []) (column k.zero rows j)

module _ {F E : Type 0} (k : FieldOps F) (gen : ℕ → Coordinates F) (l : FieldOps E) (embed : F → E)
    (n : ℕ) where
  -- entries of columns at q, those at the next point, the periodic columns' values at q, and the
  -- public values
  pub record IsWindowOf (p : Parts F) (public_values : List F) (q : Coordinates E)
      (here after : List E) (w : Window E) : Type 0 where
    pub local : w.local ≡ here
    pub next : w.next ≡ after
    pub periodic_count : length w.periodic ≡ length p.periodic_columns
    pub periodic : (i : ℕ) → i < length p.periodic_columns →
        IsPeriodicValue k gen l embed n (slice_index_or p.periodic_columns i []) q
        (slice_index_or w.periodic i l.zero)
    pub public : w.public ≡ map embed public_values

  -- the point one step on
  abbrev pub next_point : Coordinates E → Coordinates E
  next_point q = plus l q (lifted embed (gen n))

  -- where the columns are the polynomials with these coefficients
  abbrev pub IsWindowAt : Parts F → List (List F) → List F → Coordinates E → Window E → Type 0
  IsWindowAt p columns public_values q =
      IsWindowOf p public_values q (map (λ c. value l (map embed c) q) columns)
      (map (λ c. value l (map embed c) (next_point q)) columns)

  -- the selectors of the standard domain of 2^n points at q
  abbrev pub selectors_at : Coordinates E → Selectors E
  selectors_at q =
      let s = lifted embed (gen (n + 1)) in record {
        first = first_row l n s q;
        last = last_row l n s q;
        transition = transition l n s q;
      }
