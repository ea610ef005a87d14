-- What an AIR is made of, as lists.
use Rattle.std.specs.Prelude.{ℕ, List, map}
use Rattle.circle_air.specs.declared.node.Node.{Node}
use Rattle.circle_air.specs.declared.node.Constraint.{Constraint}
use Rattle.circle_air.specs.declared.parts.AirParts.{AirParts}

pub record Parts (F : Type 0) : Type 0 where
  pub width : ℕ
  pub num_public_values : ℕ
  pub periodic_columns : List (List F)
  pub nodes : List (Node F)
  pub constraints : List Constraint

abbrev pub parts_of : {F : Type 0} → AirParts F → Parts F
parts_of p = record {
  width = p.width;
  num_public_values = p.num_public_values;
  periodic_columns = map (λ column. column.items) p.periodic_columns.items;
  nodes = p.nodes.items;
  constraints = p.constraints.items;
}
