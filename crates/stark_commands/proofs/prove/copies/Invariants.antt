use Rattle.std.proofs.Common.{◌≡◌, take}
use Rattle.circle_commands.specs.Rows.{lists}
use Rattle.stark_commands.proofs.prove.copies.Given as goal

-- the columns so far are copied
abbrev pub invariant-loop-column : goal.invariant-loop-column
invariant-loop-column l = lists l.copies.items ≡ lists (take l.column-index l.columns)
