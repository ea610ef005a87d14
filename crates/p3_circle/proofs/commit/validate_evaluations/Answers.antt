use Rattle.std.proofs.Common.{◌≡◌, ◌+◌, ◌<◌, ◌∙◌, List, drop, flat_map, length, sym, ap, arith}
use Rattle.std.specs.Prelude.{Ok, Err}
use Rattle.std.specs.Result.{result_and}
use Rattle.circle_commit.specs.declared.matrix.RowMajorMatrix.{RowMajorMatrix}
use Rattle.circle_domain.specs.declared.domain.CircleDomain.{CircleDomain}
use Rattle.circle_relation.specs.declared.error.ProverError.{ProverError}
use Rattle.circle_relation.specs.TestsInOrder.{Test, answer}
use Rattle.circle_relation.proofs.Answering.{refused-is, answer-item}
use Rattle.p3_circle.specs.Committing.{domain_tests}
use Rattle.p3_circle.proofs.CommitTests.{item-small}
use Rattle.p3_circle.proofs.commit.validate_evaluations.Goals as goal

pub validate_domain-requires : goal.validate_domain-requires
validate_domain-requires g c =
    let evaluations = c.args.evaluations.now in
    let i = c.loop-domain.domain-index in
    let within : i < length evaluations = omega arith in
    item-small evaluations i c.loop-domain-item.result c.requires within c.loop-domain-item.is

pub returns-in_err-validate_domain : goal.returns-in_err-validate_domain
returns-in_err-validate_domain g c =
    let evaluations = c.args.evaluations.now in
    let i = c.loop-domain.domain-index in
    let tests : CircleDomain g.row.F.Denot g.F.Operations × RowMajorMatrix g.row.F.Denot →
    List (Test ProverError) =
    λ e. domain_tests g.F.ComplexExtendable.CIRCLE_TWO_ADICITY c.args.params.now g.F.PartialEq.eq
    g.F.Operations.ops e.0 in
    let e = c.in_err-validate_domain.field-0.0 in
    let within : i < length evaluations = omega arith in
    let refused : answer (tests c.loop-domain-item.result) (tt {0}) ≡ Err e =
    sym c.validate_domain.ensures ∙ c.in_err-validate_domain.was in
    refused-is c.from_residual.result e c.from_residual.ensures.1
    ∙ sym (ap (λ r. result_and r (answer (flat_map tests (drop (i + 1) evaluations)) (tt {0})))
    refused)
    ∙ sym (answer-item tests evaluations i c.loop-domain-item.result within c.loop-domain-item.is)
    ∙ c.loop-domain.invariant

pub loop-domain-preserved : goal.loop-domain-preserved
loop-domain-preserved g c =
    let evaluations = c.args.evaluations.now in
    let i = c.loop-domain.domain-index in
    let tests : CircleDomain g.row.F.Denot g.F.Operations × RowMajorMatrix g.row.F.Denot →
    List (Test ProverError) =
    λ e. domain_tests g.F.ComplexExtendable.CIRCLE_TWO_ADICITY c.args.params.now g.F.PartialEq.eq
    g.F.Operations.ops e.0 in
    let within : i < length evaluations = omega arith in
    let passed : answer (tests c.loop-domain-item.result) (tt {0}) ≡ Ok (tt {0}) =
    sym c.validate_domain.ensures ∙ c.in_ok-validate_domain.was in
    sym (ap (λ r. result_and r (answer (flat_map tests (drop (i + 1) evaluations)) (tt {0})))
    passed)
    ∙ sym (answer-item tests evaluations i c.loop-domain-item.result within c.loop-domain-item.is)
    ∙ c.loop-domain.invariant
