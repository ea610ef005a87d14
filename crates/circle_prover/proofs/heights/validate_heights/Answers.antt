use Rattle.std.proofs.Common.{◌≡◌, ◌+◌, ◌<◌, ◌∙◌, List, drop, flat_map, length, sym, ap, arith}
use Rattle.std.specs.Prelude.{Ok, Err}
use Rattle.std.specs.Result.{result_and}
use Rattle.circle_commit.specs.declared.matrix.RowMajorMatrix.{RowMajorMatrix}
use Rattle.circle_relation.specs.declared.error.ProverError.{ProverError}
use Rattle.circle_relation.specs.TestsInOrder.{Test, answer}
use Rattle.circle_relation.proofs.Answering.{refused-is, answer-item}
use Rattle.circle_prover.specs.Requesting.{height_tests}
use Rattle.circle_commit.specs.Matrix.{IsPowerOfTwo}
use Rattle.circle_commit.specs.RowMajorMatrix.{height_of}
use Rattle.circle_prover.proofs.CommittedHeights.{at-item}
use Rattle.circle_prover.proofs.heights.validate_heights.Goals as goal

pub validate_height-requires : goal.validate_height-requires
validate_height-requires g c =
    let matrices = c.args.matrices.now in
    let i = c.loop-matrix.matrix-index in
    let within : i < length matrices = omega arith in
    at-item (λ m. IsPowerOfTwo (height_of m)) matrices i c.matrix-item.result c.requires within
    c.matrix-item.is

pub returns-in_err-validate_height : goal.returns-in_err-validate_height
returns-in_err-validate_height g c =
    let matrices = c.args.matrices.now in
    let i = c.loop-matrix.matrix-index in
    let tests : RowMajorMatrix g.row.F.Denot → List (Test ProverError) =
    λ m. height_tests g.F.ComplexExtendable.CIRCLE_TWO_ADICITY c.args.params.now (height_of m) in
    let e = c.in_err-validate_height.field-0.0 in
    let within : i < length matrices = omega arith in
    let refused : answer (tests c.matrix-item.result) (tt {0}) ≡ Err e =
    sym c.validate_height.ensures ∙ c.in_err-validate_height.was in
    refused-is c.from_residual.result e c.from_residual.ensures.1
    ∙ sym (ap (λ r. result_and r (answer (flat_map tests (drop (i + 1) matrices)) (tt {0})))
    refused)
    ∙ sym (answer-item tests matrices i c.matrix-item.result within c.matrix-item.is)
    ∙ c.loop-matrix.invariant

pub loop-matrix-preserved : goal.loop-matrix-preserved
loop-matrix-preserved g c =
    let matrices = c.args.matrices.now in
    let i = c.loop-matrix.matrix-index in
    let tests : RowMajorMatrix g.row.F.Denot → List (Test ProverError) =
    λ m. height_tests g.F.ComplexExtendable.CIRCLE_TWO_ADICITY c.args.params.now (height_of m) in
    let within : i < length matrices = omega arith in
    let passed : answer (tests c.matrix-item.result) (tt {0}) ≡ Ok (tt {0}) =
    sym c.validate_height.ensures ∙ c.in_ok-validate_height.was in
    sym (ap (λ r. result_and r (answer (flat_map tests (drop (i + 1) matrices)) (tt {0}))) passed)
    ∙ sym (answer-item tests matrices i c.matrix-item.result within c.matrix-item.is)
    ∙ c.loop-matrix.invariant
