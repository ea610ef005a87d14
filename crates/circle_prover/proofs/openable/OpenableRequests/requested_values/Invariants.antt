use Rattle.std.proofs.Common.{◌≡◌, ◌≤◌, drop, flat_map, length, map, take}
use Rattle.std.specs.List.{AllZip}
use Rattle.circle_commit.specs.Pcs.{openings}
use Rattle.circle_codewords.specs.Requests.{AreAnswers}
use Rattle.circle_prover.specs.OfRequests.{asked_in, asked_of, fields_of}
use Rattle.circle_prover.proofs.openable.OpenableRequests.requested_values.Given as goal

-- the values of the requests so far are there, and the matrices of the others are left
abbrev pub invariant-loop-request : goal.invariant-loop-request
invariant-loop-request g l =
    let kept = g.InputMmcs.Mmcs.matrices in
    let requests = l.self.requests.now in
    record {
      values : AllZip (AreAnswers kept (fields_of l.self) l.self.params.now.log_blowup)
          (take l.request-index requests) (openings l.values.items);
      within : l.done ≤ length l.matrices;
      left : map asked_of (drop l.done l.matrices)
          ≡ flat_map (asked_in kept) (drop l.request-index requests);
    }
