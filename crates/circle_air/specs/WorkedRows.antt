-- The Fibonacci AIR on the first two rows of a trace: values, degrees, and what is refused.
use Rattle.std.specs.Prelude.{◌≡◌, ℕ, List, [], ◌∷◌, map, refl, None, Some}
use Rattle.circle_field.specs.Mersenne31.{element, operations, residue}
use Rattle.circle_field.specs.declared.mersenne31.Mersenne31.{Mersenne31}
use Rattle.circle_air.specs.declared.error.AirError.TheVariants.{NoColumns, NodeOutOfOrder}
use Rattle.circle_air.specs.declared.error.AirError.TheVariants.{ColumnOutOfRange, NoConstraints}
use Rattle.circle_air.specs.declared.error.AirError.TheVariants.{ConstraintOutOfRange}
use Rattle.circle_air.specs.declared.node.Constraint.{Constraint}
use Rattle.circle_air.specs.declared.node.Node.{Node}
use Rattle.circle_air.specs.declared.node.Node.TheVariants.{Local, Next, Public, Add, Sub, Mul}
use Rattle.circle_air.specs.declared.node.Place.{Place}
use Rattle.circle_air.specs.declared.node.Place.TheVariants.{First, Last, Transition}
use Rattle.circle_air.specs.Degrees.{degree_of_parts, degrees}
use Rattle.circle_air.specs.Parts.{Parts}
use Rattle.circle_air.specs.Refusal.{refusal}
use Rattle.circle_air.specs.Values.{values, window}

abbrev nodes : List (Node Mersenne31)
nodes = Local 0 ∷ Local 1 ∷ Next 0 ∷ Next 1 ∷ Public 0 ∷ Public 1 ∷ Public 2 ∷ Sub 0 4 ∷ Sub 1 5
    ∷ Sub 2 1 ∷ Add 0 1 ∷ Sub 3 10 ∷ Sub 1 6 ∷ []

abbrev at : Place → ℕ → Constraint
at p n = record { place = p; node = n }

abbrev parts_with : ℕ → List (Node Mersenne31) → List Constraint → Parts Mersenne31
parts_with columns ns cs = record {
  width = columns;
  num_public_values = 3;
  periodic_columns = [];
  nodes = ns;
  constraints = cs;
}

abbrev constraints : List Constraint
constraints = at First 7 ∷ at First 8 ∷ at Transition 9 ∷ at Transition 11 ∷ at Last 12 ∷ []

-- at the first row 1, 1, with 1, 2 next and 1, 1, 34 public: the last constraint's node alone isn't
-- 0
values_row : map residue (values operations (λ x. x) nodes
    (window (element 1 ∷ element 1 ∷ []) (element 1 ∷ element 2 ∷ []) []
    (element 1 ∷ element 1 ∷ element 34 ∷ [])))
    ≡ 1 ∷ 1 ∷ 1 ∷ 2 ∷ 1 ∷ 1 ∷ 34 ∷ 0 ∷ 0 ∷ 0 ∷ 2 ∷ 0 ∷ 2147483614 ∷ []
values_row = refl

degrees_row : degrees nodes ≡ 1 ∷ 1 ∷ 1 ∷ 1 ∷ 0 ∷ 0 ∷ 0 ∷ 1 ∷ 1 ∷ 1 ∷ 1 ∷ 1 ∷ 1 ∷ []
degrees_row = refl

-- each constraint has a place, which counts
greatest_row : degree_of_parts (parts_with 2 nodes constraints) ≡ 2
greatest_row = refl

accepted_row : refusal (parts_with 2 nodes constraints) ≡ None
accepted_row = refl

no_columns_row : refusal (parts_with 0 nodes constraints) ≡ Some NoColumns
no_columns_row = refl

column_row : refusal (parts_with 1 nodes constraints) ≡ Some (ColumnOutOfRange 1)
column_row = refl

itself_row : refusal (parts_with 2 (Local 0 ∷ Mul 1 0 ∷ []) []) ≡ Some (NodeOutOfOrder 1)
itself_row = refl

no_constraints_row : refusal (parts_with 2 nodes []) ≡ Some NoConstraints
no_constraints_row = refl

constraint_row : refusal (parts_with 2 nodes (at First 7 ∷ at First 13 ∷ []))
    ≡ Some (ConstraintOutOfRange 1)
constraint_row = refl
