-- The next row of a trace: what follows each row, and the step between their points.
use Rattle.std.specs.Prelude.{◌≡◌, ℕ, ◌+◌, ◌%◌, ◌<◌, List, map, length, slice_get}
use Rattle.circle_field.specs.Field.{FieldOps}
use Rattle.circle_field.specs.Circle.{Coordinates, plus, lifted}
use Rattle.circle_point.specs.Basis.{value}
use Rattle.circle_domain.specs.Values.{Interpolates}

-- entry i of the second is entry i + 1 of the first, and the last is the first's first
pub record IsRotated {T : Type 0} (entries next : List T) : Type 0 where
  pub count : length next ≡ length entries
  pub each : (i : ℕ) → i < length entries →
      slice_get next i ≡ slice_get entries ((i + 1) % length entries)

-- of polynomials whose values on the standard domain of 2^n points are a column and its next rows:
-- the second has at q the value of the first one step on
abbrev pub HaveNextValues : {F E : Type 0} →
    FieldOps F → (ℕ → Coordinates F) → FieldOps E → (F → E) → ℕ → List F → List F →
    Coordinates E → Type 0
HaveNextValues k gen l embed n column next q =
    (c d : List _) → Interpolates k gen n (gen (n + 1)) c column
    → Interpolates k gen n (gen (n + 1)) d next
    → value l (map embed d) q ≡ value l (map embed c) (plus l q (lifted embed (gen n)))
