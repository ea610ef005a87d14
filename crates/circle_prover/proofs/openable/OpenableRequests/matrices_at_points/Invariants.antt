use Rattle.std.proofs.Common.{◌≡◌, drop, flat_map, map, take}
use Rattle.circle_codewords.specs.Points.{coordinates_of}
use Rattle.circle_prover.specs.OfRequests.{AreHigh, asked_in, asked_of}
use Rattle.circle_prover.proofs.openable.OpenableRequests.matrices_at_points.Given as goal

-- the matrices of the requests so far are there, and the points of the others are left
abbrev pub invariant-loop-request : goal.invariant-loop-request
invariant-loop-request g l =
    let requests = l.self.requests.now in
    record {
      list : map asked_of l.list.items
          ≡ flat_map (asked_in g.InputMmcs.Mmcs.matrices) (take l.request-index requests);
      high : AreHigh l.self l.list.items;
      rest : coordinates_of l.rest
          ≡ flat_map (λ r. flat_map (λ v. v.items) r.points.items) (drop l.request-index requests);
    }
