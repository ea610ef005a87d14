-- Why parts make no AIR: of all reasons the first.
use Rattle.std.specs.Prelude.{ℕ, ◌+◌, ◌^◌, List, [], ◌∷◌, ◌++◌, length, Bool, false}
use Rattle.std.specs.Prelude.{nat_le, nat_lt, nat_eq, ◌||◌, Option, Some, None, if◌then◌else◌}
use Rattle.std.specs.Int.{is_power_of_two}
use Rattle.std.specs.Option.{option_or}
use Rattle.circle_air.specs.declared.error.AirError.{AirError}
use Rattle.circle_air.specs.declared.error.AirError.TheVariants.{NoColumns, PeriodicLength}
use Rattle.circle_air.specs.declared.error.AirError.TheVariants.{NodeOutOfOrder, ColumnOutOfRange}
use Rattle.circle_air.specs.declared.error.AirError.TheVariants.{PeriodicOutOfRange}
use Rattle.circle_air.specs.declared.error.AirError.TheVariants.{PublicOutOfRange, DegreeTooHigh}
use Rattle.circle_air.specs.declared.error.AirError.TheVariants.{NoConstraints}
use Rattle.circle_air.specs.declared.error.AirError.TheVariants.{ConstraintOutOfRange}
use Rattle.circle_air.specs.declared.node.Node.{Node}
use Rattle.circle_air.specs.declared.node.Node.TheVariants.{Local, Next, Periodic, Public}
use Rattle.circle_air.specs.declared.node.Node.TheVariants.{Constant, Add, Sub, Mul, Neg}
use Rattle.circle_air.specs.declared.node.Constraint.{Constraint}
use Rattle.circle_air.specs.Degrees.{degree}
use Rattle.circle_air.specs.Parts.{Parts}

module _ {F : Type 0} where
  -- an operand isn't an earlier node
  abbrev pub is_out_of_order : ℕ → Node F → Bool
  is_out_of_order i (Local c) = false
  is_out_of_order i (Next c) = false
  is_out_of_order i (Periodic j) = false
  is_out_of_order i (Public j) = false
  is_out_of_order i (Constant x) = false
  is_out_of_order i (Add a b) = nat_le i a || nat_le i b
  is_out_of_order i (Sub a b) = nat_le i a || nat_le i b
  is_out_of_order i (Mul a b) = nat_le i a || nat_le i b
  is_out_of_order i (Neg a) = nat_le i a

  -- a column that isn't there
  abbrev pub lacks_column : Parts F → Node F → Bool
  lacks_column p (Local c) = nat_le p.width c
  lacks_column p (Next c) = nat_le p.width c
  lacks_column p _ = false

  -- a periodic column that isn't there
  abbrev pub lacks_periodic : Parts F → Node F → Bool
  lacks_periodic p (Periodic i) = nat_le (length p.periodic_columns) i
  lacks_periodic p _ = false

  -- a public value that isn't there
  abbrev pub lacks_public : Parts F → Node F → Bool
  lacks_public p (Public i) = nat_le p.num_public_values i
  lacks_public p _ = false

  -- why a node is refused, by the degrees of the earlier nodes
  abbrev pub node_refusal : Parts F → List ℕ → Node F → Option AirError
  node_refusal p earlier node =
      let i = length earlier in
      if is_out_of_order i node then Some (NodeOutOfOrder i)
      else if lacks_column p node then Some (ColumnOutOfRange i)
      else if lacks_periodic p node then Some (PeriodicOutOfRange i)
      else if lacks_public p node then Some (PublicOutOfRange i)
      else if nat_lt (2 ^ 30) (degree earlier node) then Some (DegreeTooHigh i)
      else None

  -- why the first node that is refused is refused
  abbrev pub nodes_refusal : Parts F → List ℕ → List (Node F) → Option AirError
  nodes_refusal p earlier [] = None
  nodes_refusal p earlier (node ∷ nodes) =
      option_or (node_refusal p earlier node)
      (nodes_refusal p (earlier ++ degree earlier node ∷ []) nodes)

  -- the first periodic column whose length isn't a power of two, counted from j on
  abbrev pub periods_refusal : ℕ → List (List F) → Option AirError
  periods_refusal j [] = None
  periods_refusal j (column ∷ columns) =
      if is_power_of_two (length column) then periods_refusal (j + 1) columns
      else Some (PeriodicLength j)

-- the first constraint on a node that isn't there, counted from j on
abbrev pub constraints_refusal : ℕ → ℕ → List Constraint → Option AirError
constraints_refusal nodes j [] = None
constraints_refusal nodes j (c ∷ constraints) =
    if nat_lt c.node nodes then constraints_refusal nodes (j + 1) constraints
    else Some (ConstraintOutOfRange j)

module _ {F : Type 0} where
  -- why the columns alone make no AIR; nothing else is tested without memory
  abbrev pub columns_refusal : Parts F → Option AirError
  columns_refusal p =
      if nat_eq p.width 0 then Some NoColumns else periods_refusal 0 p.periodic_columns

  -- why the parts make no AIR
  abbrev pub refusal : Parts F → Option AirError
  refusal p =
      option_or (columns_refusal p)
      (option_or (nodes_refusal p [] p.nodes)
      (if nat_eq (length p.constraints) 0 then Some NoConstraints
      else constraints_refusal (length p.nodes) 0 p.constraints))
