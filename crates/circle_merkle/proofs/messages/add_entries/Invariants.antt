use Rattle.std.proofs.Common.{◌≡◌, ◌++◌, take}
use Rattle.circle_merkle.specs.Rows.{bytes_of_height}
use Rattle.circle_merkle.proofs.messages.add_entries.Given as goal

abbrev pub invariant-loop-j : goal.invariant-loop-j
invariant-loop-j g l =
    l.messages.items ≡ l.initial.messages.items
    ++ bytes_of_height g.T.ElementBytes.bytes (take l.j (g.R.RowOfEach.dimensions l.rows))
    l.height (take l.j (g.R.RowOfEach.rows l.rows))
