use Rattle.std.proofs.Common.{ℕ, List, ◌++◌, take}
use Rattle.std.specs.List.{flat_map}
use Rattle.sha2.specs.Hashers.{Holds256}
use Rattle.circle_air.proofs.digest.absorb_all.Given as goal

abbrev pub invariant-loop-item : goal.invariant-loop-item
invariant-loop-item g l = (m : List ℕ) → Holds256 l.initial.hasher m →
    Holds256 l.hasher (m ++ flat_map g.T.HasText.text (take l.item-index l.items))
