use Rattle.circle_round_trip.specs.RoundTrip.{AreCommitted}
use Rattle.circle_round_trip.proofs.any_scheme.commit_batches.Given as goal

-- the batches so far are committed to
abbrev pub invariant-loop-batch : goal.invariant-loop-batch
invariant-loop-batch g l = AreCommitted (g.P.Pcs.commits l.pcs) l.yielded l.committed.items
