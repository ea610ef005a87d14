-- When the rows of a trace satisfy an AIR.
use Rattle.std.specs.Prelude.{◌≡◌, ℕ, ◌+◌, ◌%◌, ◌<◌, ◌≤◌, List, [], length, map, All}
use Rattle.std.specs.Prelude.{slice_index_or, Option, Some, None}
use Rattle.circle_field.specs.Field.{FieldOps}
use Rattle.circle_air.specs.declared.node.Constraint.{Constraint}
use Rattle.circle_air.specs.declared.check.Violation.{Violation}
use Rattle.circle_air.specs.Parts.{Parts}
use Rattle.circle_air.specs.Places.{HasRow}
use Rattle.circle_air.specs.Values.{Window, entry, values}

module _ {F : Type 0} (k : FieldOps F) where
  -- the window of row i; the first row comes next after the last
  abbrev pub window_of_row : Parts F → List (List F) → List F → ℕ → Window F
  window_of_row p rows public i = record {
    local = slice_index_or rows i [];
    next = slice_index_or rows ((i + 1) % length rows) [];
    periodic = map (λ column. entry k column (i % length column)) p.periodic_columns;
    public = public;
  }

  -- the constraint holds at row i: where its place has the row, its node is 0 there
  abbrev pub HoldsAt : Parts F → List (List F) → List F → ℕ → Constraint → Type 0
  HoldsAt p rows public i c = HasRow c.place (length rows) i →
      entry k (values k (λ x. x) p.nodes (window_of_row p rows public i)) c.node ≡ k.zero

  -- so many public values and columns as the AIR has, and each constraint holds at each row
  pub record Satisfies (p : Parts F) (rows : List (List F)) (public : List F) : Type 0 where
    pub public_count : length public ≡ p.num_public_values
    pub widths : All (λ row. length row ≡ p.width) rows
    pub holds : (i : ℕ) → i < length rows → All (HoldsAt p rows public i) p.constraints

-- of the rows from `start` on and below `end` the first at which a constraint doesn't hold, and the
-- first such constraint
pub record IsFirstViolationIn (Holds : ℕ → Constraint → Type 0) (constraints : List Constraint)
    (start end : ℕ) (v : Violation) : Type 0 where
  pub row_from : start ≤ v.row
  pub row_below : v.row < end
  pub constraint : v.constraint < length constraints
  pub fails : (d : Constraint) → Holds v.row (slice_index_or constraints v.constraint d) → ⊥
  pub first_row : (i : ℕ) → start ≤ i → i < v.row → All (Holds i) constraints
  pub first_constraint : (j : ℕ) (d : Constraint) → j < v.constraint
      → Holds v.row (slice_index_or constraints j d)

-- what was found in these rows: no violation, or the first
abbrev pub IsFoundIn : (ℕ → Constraint → Type 0) → List Constraint → ℕ → ℕ → Option Violation →
    Type 0
IsFoundIn Holds constraints start end None =
    (i : ℕ) → start ≤ i → i < end → All (Holds i) constraints
IsFoundIn Holds constraints start end (Some v) = IsFirstViolationIn Holds constraints start end v

-- the first row at which a constraint doesn't hold, and the first such constraint
abbrev pub IsFirstViolation : {F : Type 0} → FieldOps F → Parts F → List (List F) → List F →
    Violation
    → Type 0
IsFirstViolation k p rows public =
    IsFirstViolationIn (HoldsAt k p rows public) p.constraints 0 (length rows)
