-- The elements of an extension that have one coefficient 1 and the others 0.
use Rattle.std.specs.Prelude.{◌≡◌, ℕ, ◌<◌, List, length, replicate, slice_set, slice_index_or}
use Rattle.circle_field.specs.Field.{FieldOps}

-- as many as there are coefficients, the i-th with coefficient i one
pub record AreBasis {F E : Type 0} (k : FieldOps F) (coefficients : E → List F) (degree : ℕ)
    (elements : List E) : Type 0 where
  pub count : length elements ≡ degree
  pub each : (i : ℕ) (d : E) → i < degree →
      coefficients (slice_index_or elements i d) ≡ slice_set (replicate degree k.zero) i k.one
