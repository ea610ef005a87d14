use Rattle.std.proofs.Common.{ℕ, List, ◌++◌, take}
use Rattle.sha2.specs.Hashers.{Holds256}
use Rattle.circle_merkle.specs.Rows.{bytes_of_height}
use Rattle.circle_merkle.proofs.hashing.absorb_rows.Given as goal

abbrev pub invariant-loop-j : goal.invariant-loop-j
invariant-loop-j g l = (m : List ℕ) → Holds256 l.initial.hasher m →
    Holds256 l.hasher
    (m ++ bytes_of_height g.T.ElementBytes.bytes (take l.j (g.R.RowOfEach.dimensions l.rows))
    l.height (take l.j (g.R.RowOfEach.rows l.rows)))
