use Rattle.std.proofs.Common.{◌≡◌, map, take, slice_index_or}
use Rattle.circle_verifier.proofs.first_layer.entries_at.Given as goal

abbrev pub invariant-loop-list : goal.invariant-loop-list
invariant-loop-list g l = (d : g.row.T.Denot) → l.entries.items
    ≡ map (λ list. slice_index_or list.items l.place d) (take l.list-index l.lists)
