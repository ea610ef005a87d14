use Rattle.std.proofs.Common.{◌≡◌, map, take, slice_index_or}
use Rattle.circle_verifier.proofs.rounds.first_entries.Given as goal

abbrev pub invariant-loop-row : goal.invariant-loop-row
invariant-loop-row g l = l.entries.items
    ≡ take l.row-index (map (λ row. slice_index_or row.items 0 g.E.Operations.ops.zero) l.rows)
