-- The quotient by what stands at each place of its domain: rows, selectors and periodic columns of
-- the base field, and weights of the challenge field.
use Rattle.std.specs.Prelude.{◌≡◌, ℕ, ◌+◌, ◌%◌, ◌<◌, List, [], ◌∷◌, length, map, Some}
use Rattle.std.specs.Prelude.{slice_get, slice_index_or}
use Rattle.std.proofs.Common.{zero, suc}
use Rattle.circle_field.specs.Field.{FieldOps, nth_power}
use Rattle.circle_field.specs.Circle.{Coordinates}
use Rattle.circle_commit.specs.DotProduct.{dot}
use Rattle.circle_domain.specs.Order.{natural_order}
use Rattle.circle_domain.specs.Periodic.{IsPeriodicValue}
use Rattle.circle_air.specs.declared.node.Constraint.{Constraint}
use Rattle.circle_air.specs.Values.{Window, entry}
use Rattle.circle_quotient.specs.Composition.{Selectors, term}

-- x^(n - 1), .., x, 1
abbrev pub falling_powers : {E : Type 0} → FieldOps E → E → ℕ → List E
falling_powers l x zero = []
falling_powers l x (suc n) = nth_power l x n ∷ falling_powers l x n

module _ {F : Type 0} (k : FieldOps F) (gen : ℕ → Coordinates F) (n log_chunks : ℕ) where
  -- the values at the points of the domain of 2^(n + log_chunks) points of a column that repeats
  -- over 2^n rows, as far as they differ
  pub record IsPeriodicColumn (column made : List F) : Type 0 where
    pub positive : 0 < length made
    pub values : (i : ℕ) (s : Coordinates F) →
        slice_get (natural_order k gen (n + log_chunks) (gen (n + log_chunks + 1))) i ≡ Some s →
        IsPeriodicValue k gen k (λ x. x) n column s (entry k made (i % length made))

  -- so of each column
  pub record ArePeriodicColumns (columns made : List (List F)) : Type 0 where
    pub count : length made ≡ length columns
    pub each : (c : ℕ) → c < length made →
        IsPeriodicColumn (slice_index_or columns c []) (slice_index_or made c [])

module _ {F : Type 0} (k : FieldOps F) where
  -- what constraints read at place i, where the next row is `step` rows on, and the first row comes
  -- again after the last
  abbrev pub window_of_place : List (List F) → ℕ → List (List F) → List F → ℕ → Window F
  window_of_place rows step periodic public i = record {
    local = slice_index_or rows (i % length rows) [];
    next = slice_index_or rows ((i + step) % length rows) [];
    periodic = map (λ column. entry k column (i % length column)) periodic;
    public = public;
  }

  -- the selectors at place i
  abbrev pub selectors_of_place : (first last transition : List F) → ℕ → Selectors F
  selectors_of_place first last transition i = record {
    first = entry k first i;
    last = entry k last i;
    transition = entry k transition i;
  }

  -- each constraint's node times the selector of its place
  abbrev pub terms : List Constraint → List F → Selectors F → List F
  terms constraints nodes s = map (term k s nodes) constraints

  -- elements, each times its weight, added up
  abbrev pub weighted : {E : Type 0} → FieldOps E → (F → E) → List E → List F → E
  weighted l embed weights elements = dot l (map embed elements) weights
