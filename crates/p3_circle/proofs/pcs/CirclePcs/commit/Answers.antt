use Rattle.std.proofs.Common.{rules, ◌≡◌, ◌==◌, ◌≤◌, length, true, false, Ok, sym, subst, ◌∙◌}
use Rattle.std.proofs.Common.{arith}
use Rattle.std.proofs.lemmas.Slice.Zip.{AllZip-long}
use Rattle.circle_commit.specs.Mmcs.{HaveHeightsOfPowers}
use Rattle.p3_circle.specs.Committing.{commit_tests, evaluation_tests, IsExtension}
use Rattle.circle_relation.specs.declared.error.ProverError.TheVariants.{NoCommittedMatrices}
use Rattle.p3_circle.proofs.Extended.{extensions-heights}
use Rattle.circle_prover.proofs.CommittedHeights.{eqb_positive}
use Rattle.circle_relation.proofs.Answering.{skipped}
use Rattle.p3_circle.proofs.InOrder.{refuses-first, err-refuses, passes, ok-passes, alike}
use Rattle.p3_circle.proofs.InOrder.{only-memory}
use Rattle.p3_circle.proofs.pcs.CirclePcs.commit.Goals as goal

pub returns-then-is_empty-clause-refused : goal.returns-then-is_empty-clause-refused
returns-then-is_empty-clause-refused g c =
    let es = c.args.evaluations.items in
    let none : (length es == 0) ≡ true = search rules in
    refuses-first (g.row.InputMmcs-Commitment.Denot × g.row.InputMmcs-ProverData.Denot)
    (length es == 0, NoCommittedMatrices)
    (evaluation_tests g.Val.ComplexExtendable.CIRCLE_TWO_ADICITY c.args.self.now.fri_params
    g.Val.PartialEq.eq g.Val.Operations.ops es) none

pub returns-in_err-ldes-clause-refused : goal.returns-in_err-ldes-clause-refused
returns-in_err-ldes-clause-refused g c =
    let es = c.args.evaluations.items in
    let tests =
    evaluation_tests g.Val.ComplexExtendable.CIRCLE_TWO_ADICITY c.args.self.now.fri_params
    g.Val.PartialEq.eq g.Val.Operations.ops es in
    let some : (length es == 0) ≡ false = search rules in
    alike (commit_tests g.Val.ComplexExtendable.CIRCLE_TWO_ADICITY c.args.self.now.fri_params
    g.Val.PartialEq.eq g.Val.Operations.ops es) c.from_residual.result tests
    (sym (skipped (length es == 0, NoCommittedMatrices) tests (tt {0}) some))
    (err-refuses _ (g.row.InputMmcs-Commitment.Denot × g.row.InputMmcs-ProverData.Denot) tests
    c.from_residual.result c.in_err-ldes.field-0.0 c.in_err-ldes.ensures.refused
    c.from_residual.ensures.1)

pub commit-requires-clause-some : goal.commit-requires-clause-some
commit-requires-clause-some g c =
    let k = g.Val.Operations.ops in
    let es = c.args.evaluations.items in
    let ldes = c.in_ok-ldes.ldes in
    let some : (length es == 0) ≡ false = search rules in
    let long : length ldes.items ≡ length es =
    AllZip-long
    (λ rows matrix. IsExtension k g.Val.ComplexExtendable.generators
    c.args.self.now.fri_params.log_blowup rows.0 rows.1 matrix) es ldes.items
    c.in_ok-ldes.ensures.matrices in
    let more : 1 ≤ length es = eqb_positive (length es) some in
    omega (arith, long, more, ldes.ok.0)

pub commit-requires-clause-powers_of_two : goal.commit-requires-clause-powers_of_two
commit-requires-clause-powers_of_two g c =
    extensions-heights g.Val.Operations.ops g.Val.ComplexExtendable.generators
    c.args.self.now.fri_params.log_blowup c.args.evaluations.items c.in_ok-ldes.ldes.items
    c.in_ok-ldes.ensures.matrices

pub returns-in_err-commit-clause-refused : goal.returns-in_err-commit-clause-refused
returns-in_err-commit-clause-refused g c =
    let es = c.args.evaluations.items in
    let tests =
    evaluation_tests g.Val.ComplexExtendable.CIRCLE_TWO_ADICITY c.args.self.now.fri_params
    g.Val.PartialEq.eq g.Val.Operations.ops es in
    let some : (length es == 0) ≡ false = search rules in
    passes (commit_tests g.Val.ComplexExtendable.CIRCLE_TWO_ADICITY c.args.self.now.fri_params
    g.Val.PartialEq.eq g.Val.Operations.ops es) c.from_residual-in_err-commit.result
    (skipped (length es == 0, NoCommittedMatrices) tests (tt {0}) some
    ∙ ok-passes tests c.in_ok-ldes.ldes c.in_ok-ldes.ensures.refused)
    (only-memory c.from_residual-in_err-commit.result c.from_residual-in_err-commit.ensures.1)

pub returns-clause-refused : goal.returns-clause-refused
returns-clause-refused g c =
    let es = c.args.evaluations.items in
    let tests =
    evaluation_tests g.Val.ComplexExtendable.CIRCLE_TWO_ADICITY c.args.self.now.fri_params
    g.Val.PartialEq.eq g.Val.Operations.ops es in
    let some : (length es == 0) ≡ false = search rules in
    passes (commit_tests g.Val.ComplexExtendable.CIRCLE_TWO_ADICITY c.args.self.now.fri_params
    g.Val.PartialEq.eq g.Val.Operations.ops es) (Ok c.in_ok-commit.field-0)
    (skipped (length es == 0, NoCommittedMatrices) tests (tt {0}) some
    ∙ ok-passes tests c.in_ok-ldes.ldes c.in_ok-ldes.ensures.refused)
    tt

pub returns-clause-heights : goal.returns-clause-heights
returns-clause-heights g c =
    subst HaveHeightsOfPowers (sym c.in_ok-commit.ensures.data)
    (extensions-heights g.Val.Operations.ops g.Val.ComplexExtendable.generators
    c.args.self.now.fri_params.log_blowup c.args.evaluations.items c.in_ok-ldes.ldes.items
    c.in_ok-ldes.ensures.matrices)
