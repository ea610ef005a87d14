-- The rows of a trace at which constraints hold.
use Rattle.std.specs.Prelude.{◌≡◌, ℕ, ◌+◌, ◌<◌}
use Rattle.circle_air.specs.declared.node.Place.{Place}
use Rattle.circle_air.specs.declared.node.Place.TheVariants.{Every, First, Last, Transition}

-- the place has this row, of so high a trace
abbrev pub HasRow : Place → ℕ → ℕ → Type 0
HasRow Every height row = Unit {0}
HasRow First height row = row ≡ 0
HasRow Last height row = row + 1 ≡ height
HasRow Transition height row = row + 1 < height
