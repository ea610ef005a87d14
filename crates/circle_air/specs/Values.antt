-- The values of nodes over a window.
use Rattle.std.specs.Prelude.{ℕ, List, [], ◌∷◌, ◌++◌, fold, map, slice_index_or}
use Rattle.circle_field.specs.Field.{FieldOps, sub}
use Rattle.circle_air.specs.declared.node.Node.{Node}
use Rattle.circle_air.specs.declared.node.Node.TheVariants.{Local, Next, Periodic, Public}
use Rattle.circle_air.specs.declared.node.Node.TheVariants.{Constant, Add, Sub, Mul, Neg}

-- what the nodes read at one row: the row's entries, those of the next row, those of the periodic
-- columns, and the public values
pub record Window (E : Type 0) : Type 0 where
  pub local : List E
  pub next : List E
  pub periodic : List E
  pub public : List E

-- a window of its four lists
abbrev pub window : {E : Type 0} → List E → List E → List E → List E → Window E
window local next periodic public = record {
  local = local;
  next = next;
  periodic = periodic;
  public = public;
}

-- the window with each entry embedded in another field
abbrev pub embedded : {F E : Type 0} → (F → E) → Window F → Window E
embedded embed w =
    window (map embed w.local) (map embed w.next) (map embed w.periodic) (map embed w.public)

-- entry i, or 0 past the end
abbrev pub entry : {E : Type 0} → FieldOps E → List E → ℕ → E
entry l xs i = slice_index_or xs i l.zero

module _ {F E : Type 0} (l : FieldOps E) (embed : F → E) where
  -- a node's value, by those of the earlier nodes
  abbrev pub value : Window E → List E → Node F → E
  value w earlier (Local c) = entry l w.local c
  value w earlier (Next c) = entry l w.next c
  value w earlier (Periodic i) = entry l w.periodic i
  value w earlier (Public i) = entry l w.public i
  value w earlier (Constant x) = embed x
  value w earlier (Add a b) = l.add (entry l earlier a) (entry l earlier b)
  value w earlier (Sub a b) = sub l (entry l earlier a) (entry l earlier b)
  value w earlier (Mul a b) = l.mul (entry l earlier a) (entry l earlier b)
  value w earlier (Neg a) = l.neg (entry l earlier a)

  -- the nodes' values, from the first on
  abbrev pub values : List (Node F) → Window E → List E
  values nodes w = fold (λ earlier node. earlier ++ value w earlier node ∷ []) [] nodes
