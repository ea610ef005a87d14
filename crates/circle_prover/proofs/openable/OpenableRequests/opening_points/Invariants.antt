use Rattle.std.proofs.Common.{◌≡◌, flat_map, take}
use Rattle.circle_codewords.specs.Points.{coordinates_of}
use Rattle.circle_prover.proofs.openable.OpenableRequests.opening_points.Given as goal

-- the points of the requests so far are there
abbrev pub invariant-loop-request : goal.invariant-loop-request
invariant-loop-request g l =
    coordinates_of l.list.items
    ≡ flat_map (λ r. flat_map (λ v. v.items) r.points.items)
    (take l.request-index l.self.requests.now)
