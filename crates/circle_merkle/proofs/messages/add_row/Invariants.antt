use Rattle.std.proofs.Common.{◌≡◌, ◌++◌, take}
use Rattle.std.specs.List.{flat_map}
use Rattle.circle_merkle.proofs.messages.add_row.Given as goal

abbrev pub invariant-loop-entry : goal.invariant-loop-entry
invariant-loop-entry g l = l.messages.items ≡ l.initial.messages.items
    ++ flat_map g.T.ElementBytes.bytes (take l.entry-index l.row)
