-- Values of nodes over blocks of rows, of which each lane is a row.
use Rattle.std.specs.Prelude.{◌≡◌, ℕ, ◌+◌, ◌/◌, ◌%◌, ◌<◌, List, [], length, map, All}
use Rattle.std.specs.Prelude.{slice_index_or, Option, Some, None}
use Rattle.circle_field.specs.Field.{FieldOps}
use Rattle.circle_commit.specs.Matrix.{column, rows_from}
use Rattle.circle_air.specs.declared.node.Constraint.{Constraint}
use Rattle.circle_air.specs.Parts.{Parts}
use Rattle.circle_air.specs.Places.{HasRow}
use Rattle.circle_air.specs.Values.{Window, entry}

-- the values at lane r, where each node in turn has one for each of so many lanes
abbrev pub lane : {E : Type 0} → FieldOps E → ℕ → ℕ → List E → List E
lane l lanes r values = column l.zero (rows_from lanes (length values / lanes) values) r

-- the window of row i, where the rows are gone over again after the last
abbrev pub window_past : {F : Type 0} → FieldOps F → Parts F → List (List F) → List F → ℕ → Window F
window_past k p rows public i = record {
  local = slice_index_or rows (i % length rows) [];
  next = slice_index_or rows ((i + 1) % length rows) [];
  periodic = map (λ column. entry k column (i % length column)) p.periodic_columns;
  public = public;
}

-- the constraint holds at lane r of so many, which is a row of so high a trace
abbrev pub HoldsInLane : {F : Type 0} → FieldOps F → ℕ → List F → ℕ → ℕ → ℕ → Constraint → Type 0
HoldsInLane k lanes values height row r c =
    HasRow c.place height row → entry k (lane k lanes r values) c.node ≡ k.zero

-- no constraint fails, or the first that does is at this position
abbrev pub IsFailureAt : (Constraint → Type 0) → List Constraint → Option ℕ → Type 0
IsFailureAt Holds constraints None = All Holds constraints
IsFailureAt Holds constraints (Some j) = (j < length constraints)
    × ((d : Constraint) → Holds (slice_index_or constraints j d) → ⊥)
    × ((i : ℕ) (d : Constraint) → i < j → Holds (slice_index_or constraints i d))
