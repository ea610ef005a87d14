-- Rows of a table whose columns repeat.
use Rattle.std.specs.Prelude.{◌≡◌, ℕ, ◌%◌, ◌<◌, ◌≤◌, List, [], Some}
use Rattle.std.specs.Prelude.{length, map, slice_get, slice_index_or}
use Rattle.circle_field.specs.Field.{FieldOps}
use Rattle.circle_field.specs.Circle.{Coordinates}
use Rattle.circle_domain.specs.Domain.{log_size, shift_of}
use Rattle.circle_domain.specs.Order.{natural_order}
use Rattle.circle_domain.specs.Periodic.{IsPeriodicValue}
use Rattle.circle_domain.specs.declared.domain.CircleDomain.{CircleDomain}

-- rows with the columns' values, as far as they differ, at the points of the domain (m, s), an
-- extension of a trace of 2^n rows
pub record AreExtended {F : Type 0} (k : FieldOps F) (gen : ℕ → Coordinates F)
    (two_adicity n m : ℕ) (s : Coordinates F) (columns rows : List (List F)) : Type 0 where
  pub values : m ≤ two_adicity → (i c : ℕ) (p : Coordinates F) →
      slice_get (natural_order k gen m s) i ≡ Some p → c < length columns →
      IsPeriodicValue k gen k (λ x. x) n (slice_index_or columns c []) p
      (slice_index_or (slice_index_or rows (i % length rows) []) c k.zero)

abbrev pub AreExtendedOn : {F : Type 0} {g : _} → FieldOps F → (ℕ → Coordinates F) → ℕ → ℕ →
    CircleDomain F g → List (List F) → List (List F) → Type 0
AreExtendedOn k gen two_adicity n d columns rows =
    AreExtended k gen two_adicity n (log_size d) (shift_of d) columns rows

-- the entry of each column at row r, where each begins anew after its last entry
abbrev pub table_row : {F : Type 0} → F → List (List F) → ℕ → List F
table_row d columns r = map (λ column. slice_index_or column (r % length column) d) columns
