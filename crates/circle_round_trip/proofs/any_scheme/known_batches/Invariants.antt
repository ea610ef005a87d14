use Rattle.std.proofs.Common.{◌≡◌, map}
use Rattle.circle_round_trip.proofs.any_scheme.known_batches.Given as goal

-- what is known of the batches so far is there
abbrev pub invariant-loop-batch : goal.invariant-loop-batch
invariant-loop-batch g l = l.known.items ≡ map (λ c. c.known) l.yielded
