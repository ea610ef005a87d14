-- The degrees of nodes and constraints.
use Rattle.std.specs.Prelude.{ℕ, ◌+◌, ◌^◌, ◌≤◌, max, List, [], ◌∷◌, ◌++◌, fold, slice_index}
use Rattle.circle_air.specs.declared.node.Node.{Node}
use Rattle.circle_air.specs.declared.node.Node.TheVariants.{Local, Next, Periodic, Public}
use Rattle.circle_air.specs.declared.node.Node.TheVariants.{Constant, Add, Sub, Mul, Neg}
use Rattle.circle_air.specs.declared.node.Constraint.{Constraint}
use Rattle.circle_air.specs.declared.node.Place.{Place}
use Rattle.circle_air.specs.declared.node.Place.TheVariants.{Every, First, Last, Transition}
use Rattle.circle_air.specs.Parts.{Parts}

module _ {F : Type 0} where
  -- a node's degree, by those of the earlier nodes
  abbrev pub degree : List ℕ → Node F → ℕ
  degree earlier (Local c) = 1
  degree earlier (Next c) = 1
  degree earlier (Periodic i) = 1
  degree earlier (Public i) = 0
  degree earlier (Constant x) = 0
  degree earlier (Add a b) = max (slice_index earlier a) (slice_index earlier b)
  degree earlier (Sub a b) = max (slice_index earlier a) (slice_index earlier b)
  degree earlier (Mul a b) = slice_index earlier a + slice_index earlier b
  degree earlier (Neg a) = slice_index earlier a

  -- the nodes' degrees, from the first on
  abbrev pub degrees : List (Node F) → List ℕ
  degrees nodes = fold (λ earlier node. earlier ++ degree earlier node ∷ []) [] nodes

-- what a place adds to a degree: that of its selector
abbrev pub selector_degree : Place → ℕ
selector_degree Every = 0
selector_degree First = 1
selector_degree Last = 1
selector_degree Transition = 1

abbrev pub constraint_degree : List ℕ → Constraint → ℕ
constraint_degree degrees c = slice_index degrees c.node + selector_degree c.place

-- the greatest degree of a constraint
abbrev pub greatest_degree : List ℕ → List Constraint → ℕ
greatest_degree degrees constraints =
    fold (λ greatest c. max greatest (constraint_degree degrees c)) 0 constraints

abbrev pub degree_of_parts : {F : Type 0} → Parts F → ℕ
degree_of_parts p = greatest_degree (degrees p.nodes) p.constraints

-- k is the least number from 1 on for which 2^k + 1 is at least the degree
pub record IsLogOfChunks (degree : ℕ) (k : ℕ) : Type 0 where
  pub positive : 1 ≤ k
  pub enough : degree ≤ 2 ^ k + 1
  pub least : (m : ℕ) → 1 ≤ m → degree ≤ 2 ^ m + 1 → k ≤ m
