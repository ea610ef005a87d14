use Rattle.std.proofs.Common.{◌≡◌, ◌++◌, length, map, take}
use Rattle.circle_commit.specs.DotProduct.{pairwise}
use Rattle.circle_commit.specs.Mmcs.{opened_rows}
use Rattle.circle_codewords.specs.Requests.{committed}
use Rattle.circle_codewords.specs.Words.{committed_of}
use Rattle.circle_prover.specs.OfRequests.{asked_of, fields_of}
use Rattle.circle_prover.proofs.openable.OpenableRequests.push_opened.Given as goal

-- the matrices so far are there
abbrev pub invariant-loop-matrix : goal.invariant-loop-matrix
invariant-loop-matrix g l =
    let k = fields_of l.self in
    let b = l.self.params.now.log_blowup in
    map (committed_of k b) l.list.items
    ≡ map (committed_of k b) l.initial.list.items
    ++ take (length l.yielded)
    (pairwise (λ a v. committed k b a.0 a.1 v) (map asked_of l.matrices) (opened_rows l.values))
