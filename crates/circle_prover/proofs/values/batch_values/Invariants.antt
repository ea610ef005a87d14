use Rattle.std.proofs.Common.{map, take}
use Rattle.std.specs.List.{AllZip}
use Rattle.circle_commit.specs.Mmcs.{opened_rows}
use Rattle.circle_codewords.specs.Requests.{AreValuesOf}
use Rattle.circle_prover.specs.OfRequests.{asked_of}
use Rattle.circle_prover.proofs.Requested.{fields_at_all}
use Rattle.circle_prover.proofs.values.batch_values.Given as goal

-- the values of the matrices so far are there
abbrev pub invariant-loop-matrix : goal.invariant-loop-matrix
invariant-loop-matrix g l =
    AllZip (λ a v. AreValuesOf (fields_at_all l.matrices) l.log_blowup a.0 a.1 v)
    (take l.matrix-index (map asked_of l.matrices)) (opened_rows l.values.items)
