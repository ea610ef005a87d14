use Rattle.std.proofs.Common.{rules, ◌≡◌, ◌==◌, length, true, false, sym, subst, ap, ◌∙◌, Ok}
use Rattle.circle_commit.specs.Mmcs.{HaveHeightsOfPowers}
use Rattle.p3_circle.specs.Committing.{lde_tests}
use Rattle.circle_prover.specs.Requesting.{matrix_tests}
use Rattle.circle_relation.specs.declared.error.ProverError.TheVariants.{NoCommittedMatrices}
use Rattle.circle_relation.specs.TestsInOrder.{answer}
use Rattle.circle_relation.proofs.Answering.{skipped}
use Rattle.p3_circle.proofs.InOrder.{refuses, refuses-first, passes, only-memory}
use Rattle.p3_circle.proofs.pcs.CirclePcs.commit_ldes.Goals as goal

pub returns-then-is_empty-clause-refused : goal.returns-then-is_empty-clause-refused
returns-then-is_empty-clause-refused g c =
    let ldes = c.args.ldes.items in
    let none : (length ldes == 0) ≡ true = search rules in
    refuses-first (g.row.InputMmcs-Commitment.Denot × g.row.InputMmcs-ProverData.Denot)
    (length ldes == 0, NoCommittedMatrices)
    (matrix_tests g.Val.ComplexExtendable.CIRCLE_TWO_ADICITY c.args.self.now.fri_params ldes)
    none

pub validate_heights-requires : goal.validate_heights-requires
validate_heights-requires g c = subst HaveHeightsOfPowers (sym c.deref.ensures.value) c.requires

pub
    returns-in_err-validate_heights-clause-refused :
    goal.returns-in_err-validate_heights-clause-refused
returns-in_err-validate_heights-clause-refused g c =
    let two = g.Val.ComplexExtendable.CIRCLE_TWO_ADICITY in
    let p = c.args.self.now.fri_params in
    let ldes = c.args.ldes.items in
    let some : (length ldes == 0) ≡ false = search rules in
    refuses (lde_tests two p ldes) c.from_residual.result c.in_err-validate_heights.field-0.0
    (skipped (length ldes == 0, NoCommittedMatrices) (matrix_tests two p ldes) (tt {0}) some
    ∙ ap (λ ms. answer (matrix_tests two p ms) (tt {0})) (sym c.deref.ensures.value)
    ∙ sym c.validate_heights.ensures ∙ c.in_err-validate_heights.was)
    c.from_residual.ensures.1

pub returns-in_err-commit-clause-refused : goal.returns-in_err-commit-clause-refused
returns-in_err-commit-clause-refused g c =
    let two = g.Val.ComplexExtendable.CIRCLE_TWO_ADICITY in
    let p = c.args.self.now.fri_params in
    let ldes = c.args.ldes.items in
    let some : (length ldes == 0) ≡ false = search rules in
    passes (lde_tests two p ldes) c.from_residual-in_err-commit.result
    (skipped (length ldes == 0, NoCommittedMatrices) (matrix_tests two p ldes) (tt {0}) some
    ∙ ap (λ ms. answer (matrix_tests two p ms) (tt {0})) (sym c.deref.ensures.value)
    ∙ sym c.validate_heights.ensures ∙ c.in_ok-validate_heights.was)
    (only-memory c.from_residual-in_err-commit.result c.from_residual-in_err-commit.ensures.1)

pub returns-clause-refused : goal.returns-clause-refused
returns-clause-refused g c =
    let two = g.Val.ComplexExtendable.CIRCLE_TWO_ADICITY in
    let p = c.args.self.now.fri_params in
    let ldes = c.args.ldes.items in
    let some : (length ldes == 0) ≡ false = search rules in
    passes (lde_tests two p ldes) (Ok c.in_ok-commit.field-0)
    (skipped (length ldes == 0, NoCommittedMatrices) (matrix_tests two p ldes) (tt {0}) some
    ∙ ap (λ ms. answer (matrix_tests two p ms) (tt {0})) (sym c.deref.ensures.value)
    ∙ sym c.validate_heights.ensures ∙ c.in_ok-validate_heights.was)
    tt

pub returns-clause-heights : goal.returns-clause-heights
returns-clause-heights g c = subst HaveHeightsOfPowers (sym c.in_ok-commit.ensures.data) c.requires
