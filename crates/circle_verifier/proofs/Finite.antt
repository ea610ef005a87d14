-- Coordinates that belong to points.
use Rattle.std.specs.Prelude.{◌≡◌, ◌↔◌, Bool, true, false, List, All}
use Rattle.std.proofs.Common.{sym, ◌∙◌}
use Rattle.circle_field.specs.Field.{FieldOps}
use Rattle.circle_domain.specs.Selectors.{IsFinite}
use Rattle.circle_relation.specs.Statement.{MatrixClaim}
use Rattle.circle_point.specs.Projective.{is_at_infinity}

-- coordinates that a test finds finite are
pub finite_from : {E : Type 0} (l : FieldOps E) (eq : E → E → Bool) (ms : List (MatrixClaim E)) →
    ((a b : E) → (eq a b ≡ true) ↔ (a ≡ b)) →
    All (λ m. All (λ c. is_at_infinity eq l c.point ≡ false) m.claims) ms →
    All (λ m. All (λ c. IsFinite l c.point) m.claims) ms
finite_from l eq ms law all = λ i d lt j e lt' same.
    let none = all i d lt j e lt' in
    let some = (law _ _).1 same in
    let both : true ≡ false = sym some ∙ none in cc
