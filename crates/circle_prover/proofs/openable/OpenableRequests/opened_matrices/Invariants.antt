use Rattle.std.proofs.Common.{◌≡◌, ◌≤◌, drop, flat_map, length, map, take}
use Rattle.circle_commit.specs.Pcs.{openings}
use Rattle.circle_codewords.specs.Requests.{all_committed}
use Rattle.circle_codewords.specs.Words.{committed_of}
use Rattle.circle_prover.specs.OfRequests.{asked_in, asked_of, fields_of}
use Rattle.circle_prover.proofs.openable.OpenableRequests.opened_matrices.Given as goal

-- the matrices of the requests so far are there, and those of the others are left
abbrev pub invariant-loop-request : goal.invariant-loop-request
invariant-loop-request g l =
    let k = fields_of l.self in
    let b = l.self.params.now.log_blowup in
    let kept = g.InputMmcs.Mmcs.matrices in
    let i = length l.yielded in
    record {
      list : map (committed_of k b) l.list.items
          ≡ flat_map (λ b. b)
          (take i (all_committed kept k b l.self.requests.now (openings l.values)));
      within : l.done ≤ length l.matrices;
      left : map asked_of (drop l.done l.matrices)
          ≡ flat_map (asked_in kept) (drop i l.self.requests.now);
    }
