-- Nodes that read what is there.
use Rattle.std.specs.Prelude.{ℕ, ◌<◌}
use Rattle.circle_air.specs.declared.node.Node.{Node}
use Rattle.circle_air.specs.declared.node.Node.TheVariants.{Local, Next, Periodic, Public}
use Rattle.circle_air.specs.declared.node.Node.TheVariants.{Constant, Add, Sub, Mul, Neg}

-- at position i, a node reads columns, periodic columns and public values that are there, of which
-- there are so many, and earlier nodes
abbrev pub IsInRange : {F : Type 0} → ℕ → ℕ → ℕ → ℕ → Node F → Type 0
IsInRange width periodic public i (Local c) = c < width
IsInRange width periodic public i (Next c) = c < width
IsInRange width periodic public i (Periodic j) = j < periodic
IsInRange width periodic public i (Public j) = j < public
IsInRange width periodic public i (Constant x) = Unit {0}
IsInRange width periodic public i (Add a b) = (a < i) × (b < i)
IsInRange width periodic public i (Sub a b) = (a < i) × (b < i)
IsInRange width periodic public i (Mul a b) = (a < i) × (b < i)
IsInRange width periodic public i (Neg a) = a < i
