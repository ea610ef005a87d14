use Rattle.std.proofs.Common.{ℕ, List, ◌++◌, take}
use Rattle.std.specs.List.{flat_map}
use Rattle.sha2.specs.Hashers.{Holds256}
use Rattle.circle_merkle.proofs.hashing.absorb_row.Given as goal

abbrev pub invariant-loop-entry : goal.invariant-loop-entry
invariant-loop-entry g l = (m : List ℕ) → Holds256 l.initial.hasher m →
    Holds256 l.hasher (m ++ flat_map g.T.ElementBytes.bytes (take l.entry-index l.row))
