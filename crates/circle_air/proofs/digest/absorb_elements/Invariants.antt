use Rattle.std.proofs.Common.{ℕ, List, ◌++◌, take}
use Rattle.std.specs.List.{flat_map}
use Rattle.sha2.specs.Hashers.{Holds256}
use Rattle.circle_air.proofs.digest.absorb_elements.Given as goal

abbrev pub invariant-loop-element : goal.invariant-loop-element
invariant-loop-element g l = (m : List ℕ) → Holds256 l.initial.hasher m →
    Holds256 l.hasher (m ++ flat_map g.T.ElementBytes.bytes (take l.element-index l.elements))
