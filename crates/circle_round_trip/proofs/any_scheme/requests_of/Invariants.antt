use Rattle.std.proofs.Common.{◌≡◌, map, take}
use Rattle.circle_commit.specs.Honest.{requested_points}
use Rattle.circle_commit.specs.Claims.{lists}
use Rattle.circle_round_trip.proofs.any_scheme.requests_of.Given as goal

-- the requests so far are there
abbrev pub invariant-loop-batch : goal.invariant-loop-batch
invariant-loop-batch g l = record {
  kept : map (λ r. r.prover_data.now) l.requests.items
      ≡ map (λ c. c.prover_data) (take l.batch-index l.committed);
  points : map requested_points l.requests.items
      ≡ map (λ c. lists c.known.points) (take l.batch-index l.committed);
}
