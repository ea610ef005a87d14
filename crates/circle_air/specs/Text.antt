-- The text of an AIR, whose digest names it.
use Rattle.std.specs.Prelude.{ℕ, List, ◌∷◌, ◌++◌, length, flat_map, codes}
use Rattle.std.specs.Int.{w64, to_be_bytes}
use Rattle.circle_air.specs.declared.node.Node.{Node}
use Rattle.circle_air.specs.declared.node.Node.TheVariants.{Local, Next, Periodic, Public}
use Rattle.circle_air.specs.declared.node.Node.TheVariants.{Constant, Add, Sub, Mul, Neg}
use Rattle.circle_air.specs.declared.node.Constraint.{Constraint}
use Rattle.circle_air.specs.declared.node.Place.{Place}
use Rattle.circle_air.specs.declared.node.Place.TheVariants.{Every, First, Last, Transition}
use Rattle.circle_air.specs.Parts.{Parts}

-- a number in eight bytes, the greatest first
unfoldable pub be64 : ℕ → List ℕ
be64 n = to_be_bytes w64 n

-- a text for each of a list, behind their number
abbrev pub listed : {X : Type 0} → (X → List ℕ) → List X → List ℕ
listed text xs = be64 (length xs) ++ flat_map text xs

abbrev pub place_byte : Place → ℕ
place_byte Every = 0
place_byte First = 1
place_byte Last = 2
place_byte Transition = 3

-- a constraint's place and its node
abbrev pub constraint_text : Constraint → List ℕ
constraint_text c = place_byte c.place ∷ be64 c.node

module _ {F : Type 0} (bytes : F → List ℕ) where
  -- a node's tag and its operands
  abbrev pub node_text : Node F → List ℕ
  node_text (Local c) = 0 ∷ be64 c
  node_text (Next c) = 1 ∷ be64 c
  node_text (Periodic i) = 2 ∷ be64 i
  node_text (Public i) = 3 ∷ be64 i
  node_text (Constant x) = 4 ∷ bytes x
  node_text (Add a b) = 5 ∷ (be64 a ++ be64 b)
  node_text (Sub a b) = 6 ∷ (be64 a ++ be64 b)
  node_text (Mul a b) = 7 ∷ (be64 a ++ be64 b)
  node_text (Neg a) = 8 ∷ be64 a

  -- a periodic column's length and its elements
  abbrev pub column_text : List F → List ℕ
  column_text column = listed bytes column

  -- the text of an AIR over a field whose elements have `size` bytes
  abbrev pub air_text : ℕ → Parts F → List ℕ
  air_text size p =
      codes "circle-air" ++ (1 ∷ be64 size) ++ be64 p.width ++ be64 p.num_public_values
      ++ listed column_text p.periodic_columns ++ listed node_text p.nodes
      ++ listed constraint_text p.constraints
