-- Where a proof opens columns: a point out of the trace's domain that has a next one.
use Rattle.std.specs.Prelude.{◌≢◌, ℕ}
use Rattle.circle_field.specs.Field.{FieldOps}
use Rattle.circle_field.specs.Circle.{Coordinates}
use Rattle.circle_point.specs.Basis.{vanishing}
use Rattle.circle_point.specs.Projective.{from_line, half_turn}
use Rattle.circle_domain.specs.Selectors.{IsFinite, next_from}

-- the point of coordinate t is finite, the vanishing polynomial of 2^n points isn't 0 there, and
-- the
-- next point isn't the half turn, which is at infinity
pub record IsFit {F E : Type 0} (l : FieldOps E) (embed : F → E) (gen : ℕ → Coordinates F) (n : ℕ)
    (t : E) : Type 0 where
  pub finite : IsFinite l t
  pub off_domain : vanishing l n (from_line l t) ≢ l.zero
  pub has_next : next_from l embed gen n t ≢ half_turn l
