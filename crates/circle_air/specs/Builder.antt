-- What the calls of a builder leave and return.
use Rattle.std.specs.Prelude.{◌≡◌, ℕ, List, [], ◌∷◌, ◌++◌, length, Result, Ok, Err}
use Rattle.circle_air.specs.declared.builder.Expr.{Expr}
use Rattle.circle_air.specs.declared.error.AirError.{AirError}
use Rattle.circle_air.specs.declared.error.AirError.TheVariants.{Memory}
use Rattle.circle_air.specs.declared.node.Node.{Node}
use Rattle.circle_air.specs.declared.node.Node.TheVariants.{Mul, Periodic, Sub}
use Rattle.circle_air.specs.declared.node.Constraint.{Constraint}
use Rattle.circle_air.specs.Parts.{Parts}

module _ {F : Type 0} where
  -- the parts with one more node
  abbrev pub with_node : Parts F → Node F → Parts F
  with_node p node = record p { nodes = p.nodes ++ node ∷ [] }

  -- the parts with the square of a node, and the difference of that and the node
  abbrev pub with_bool : Parts F → ℕ → Parts F
  with_bool p node = with_node (with_node p (Mul node node)) (Sub (length p.nodes) node)

  -- the parts with one more constraint
  abbrev pub with_constraint : Parts F → Constraint → Parts F
  with_constraint p c = record p { constraints = p.constraints ++ c ∷ [] }

  -- the node was appended and its position returned, or memory was refused and nothing changed
  abbrev pub IsAppended : Parts F → Node F → Parts F → Result Expr AirError → Type 0
  IsAppended old node new (Ok e) = (new ≡ with_node old node) × (e.position ≡ length old.nodes)
  IsAppended old node new (Err error) = (new ≡ old) × (error ≡ Memory)

  -- a periodic column and the node that reads it were appended
  abbrev pub IsAppendedPeriodic : Parts F → List F → Parts F → Result Expr AirError → Type 0
  IsAppendedPeriodic old column new (Ok e) =
      (new ≡ with_node (record old { periodic_columns = old.periodic_columns ++ column ∷ [] })
      (Periodic (length old.periodic_columns)))
      × (e.position ≡ length old.nodes)
  IsAppendedPeriodic old column new (Err error) = (new ≡ old) × (error ≡ Memory)

  -- the parts became these, or memory was refused and nothing changed
  abbrev pub IsChanged : Parts F → Parts F → Parts F → Result Unit AirError → Type 0
  IsChanged old due new (Ok _) = new ≡ due
  IsChanged old due new (Err error) = (new ≡ old) × (error ≡ Memory)

-- the call was refused for this reason, and nothing changed
abbrev pub IsRefusedAs : {F T : Type 0} → AirError → Parts F → Parts F → Result T AirError → Type 0
IsRefusedAs reason old new result = (result ≡ Err reason) × (new ≡ old)
