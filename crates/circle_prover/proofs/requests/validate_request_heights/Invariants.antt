use Rattle.std.proofs.Common.{◌≡◌, List, drop, flat_map}
use Rattle.circle_commit.specs.declared.pcs.OpeningRequest.{OpeningRequest}
use Rattle.circle_relation.specs.declared.error.ProverError.{ProverError}
use Rattle.circle_prover.specs.Requesting.{matrix_tests}
use Rattle.circle_relation.specs.TestsInOrder.{Test, answer}
use Rattle.circle_prover.proofs.requests.validate_request_heights.Given as goal

-- the result is that for the requests that are left
abbrev pub invariant-loop-request : goal.invariant-loop-request
invariant-loop-request g l =
    let tests : OpeningRequest g.row.M-ProverData.Denot g.row.EF.Denot → List (Test ProverError) =
    λ r. matrix_tests g.F.ComplexExtendable.CIRCLE_TWO_ADICITY l.params
    (g.M.Mmcs.matrices r.prover_data.now) in
    answer {A = Unit {0}} (flat_map tests (drop l.request-index l.requests)) (tt {0})
    ≡ answer (flat_map tests l.requests) (tt {0})
