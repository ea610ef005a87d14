-- Points off a domain.
use Rattle.std.specs.Prelude.{◌≢◌, List, All}
use Rattle.circle_field.specs.Field.{FieldOps}
use Rattle.circle_field.specs.Circle.{Coordinates}
use Rattle.circle_point.specs.Projective.{minus}

-- (q - p).y is not zero for any of the points: q is none of them, and none plus the half turn
abbrev pub IsClearOf : {F E : Type 0} →
    FieldOps E → (F → E) → List (Coordinates F) → Coordinates E → Type 0
IsClearOf l embed points q = All (λ p. (minus l embed q p).y ≢ l.zero) points
