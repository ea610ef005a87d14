use Rattle.std.proofs.Common.{◌≡◌, map, take}
use Rattle.circle_commit.specs.Mmcs.{opened_rows}
use Rattle.circle_round_trip.proofs.any_scheme.copies_of_batches.Given as goal

-- the copies so far are there
abbrev pub invariant-loop-batch : goal.invariant-loop-batch
invariant-loop-batch g l = map (λ rows. opened_rows rows.items) l.copies.items
    ≡ map (λ rows. opened_rows rows.items) (take l.batch-index l.batches)
