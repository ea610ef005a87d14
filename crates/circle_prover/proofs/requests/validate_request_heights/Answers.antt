use Rattle.std.proofs.Common.{◌+◌, List, drop, flat_map, ap, sym, subst, ◌∙◌}
use Rattle.std.specs.Result.{result_and}
use Rattle.circle_commit.specs.Mmcs.{HaveHeightsOfPowers}
use Rattle.circle_commit.specs.declared.pcs.OpeningRequest.{OpeningRequest}
use Rattle.circle_relation.specs.declared.error.ProverError.{ProverError}
use Rattle.circle_prover.specs.Requesting.{matrix_tests}
use Rattle.circle_relation.specs.TestsInOrder.{Test, answer}
use Rattle.circle_relation.proofs.Answering.{refused-is, answer-item}
use Rattle.circle_prover.proofs.CommittedHeights.{at-item}
use Rattle.circle_prover.proofs.requests.validate_request_heights.Goals as goal

pub validate_heights-requires : goal.validate_heights-requires
validate_heights-requires g c =
    let matrices = g.M.Mmcs.matrices in
    subst HaveHeightsOfPowers (sym c.get_matrices.ensures)
    (at-item (λ r. HaveHeightsOfPowers (matrices r.prover_data.now)) c.args.requests.now
    c.loop-request.request-index c.request-item.result c.requires c.loop-request-test.true
    c.request-item.is)

pub returns-in_err-validate_heights : goal.returns-in_err-validate_heights
returns-in_err-validate_heights g c =
    let two = g.F.ComplexExtendable.CIRCLE_TWO_ADICITY in
    let p = c.args.params.now in
    let requests = c.args.requests.now in
    let i = c.loop-request.request-index in
    let tests : OpeningRequest g.row.M-ProverData.Denot g.row.EF.Denot → List (Test ProverError) =
    λ r. matrix_tests two p (g.M.Mmcs.matrices r.prover_data.now) in
    let rest = answer {A = Unit {0}} (flat_map tests (drop (i + 1) requests)) (tt {0}) in
    let step = answer-item tests requests i c.request-item.result c.loop-request-test.true
    c.request-item.is in
    refused-is c.from_residual.result c.in_err-validate_heights.field-0.0 c.from_residual.ensures.1
    ∙ sym
    (ap (λ r. result_and r rest)
    (ap (λ ms. answer {A = Unit {0}} (matrix_tests two p ms) (tt {0}))
    (sym c.get_matrices.ensures) ∙ sym c.validate_heights.ensures
    ∙ c.in_err-validate_heights.was))
    ∙ sym step ∙ c.loop-request.invariant

pub loop-request-preserved : goal.loop-request-preserved
loop-request-preserved g c =
    let two = g.F.ComplexExtendable.CIRCLE_TWO_ADICITY in
    let p = c.args.params.now in
    let requests = c.args.requests.now in
    let i = c.loop-request.request-index in
    let tests : OpeningRequest g.row.M-ProverData.Denot g.row.EF.Denot → List (Test ProverError) =
    λ r. matrix_tests two p (g.M.Mmcs.matrices r.prover_data.now) in
    let rest = answer {A = Unit {0}} (flat_map tests (drop (i + 1) requests)) (tt {0}) in
    let step = answer-item tests requests i c.request-item.result c.loop-request-test.true
    c.request-item.is in
    sym
    (ap (λ r. result_and r rest)
    (ap (λ ms. answer {A = Unit {0}} (matrix_tests two p ms) (tt {0}))
    (sym c.get_matrices.ensures) ∙ sym c.validate_heights.ensures
    ∙ c.in_ok-validate_heights.was))
    ∙ sym step ∙ c.loop-request.invariant
