use Rattle.std.proofs.Common.{◌+◌, ◌<◌, ◌≤◌, ◌∙◌, sym, arith}
use Rattle.circle_commit.specs.RowMajorMatrix.{height_of}
use Rattle.circle_domain.specs.Domain.{log_size}
use Rattle.circle_prover.proofs.CommittedHeights.{height-passed}
use Rattle.p3_circle.proofs.CommitTests.{target_small, target_fits}
use Rattle.p3_circle.proofs.commit.validate_target.Goals as goal

pub overflow_sub-log2_strict : goal.overflow_sub-log2_strict
overflow_sub-log2_strict g c =
    let p = c.args.params.now in
    let h = c.log2_strict.result in
    let height = height_of c.args.committed.now in
    let fits = height-passed g.F.ComplexExtendable.CIRCLE_TWO_ADICITY p height h
    (c.log2_strict.ensures.power ∙ c.height.ensures)
    (sym c.validate_height.ensures ∙ c.in_ok-validate_height.was) in
    let enough : p.log_blowup + 2 + p.log_final_poly_len ≤ h = fits.0 in
    omega (arith, enough)

pub returns-then-log_n-log2_strict : goal.returns-then-log_n-log2_strict
returns-then-log_n-log2_strict g c =
    let p = c.args.params.now in
    let h = c.log2_strict.result in
    let n = log_size c.args.domain.now in
    let height = height_of c.args.committed.now in
    let small : n + p.log_blowup < h =
    omega (arith, c.if-log_n-log2_strict.true, c.log_n.ensures) in
    sym
    (target_small g.F.ComplexExtendable.CIRCLE_TWO_ADICITY p height h
    (c.log2_strict.ensures.power ∙ c.height.ensures) n
    (sym c.validate_height.ensures ∙ c.in_ok-validate_height.was) small)

pub returns : goal.returns
returns g c =
    let p = c.args.params.now in
    let h = c.log2_strict.result in
    let n = log_size c.args.domain.now in
    let height = height_of c.args.committed.now in
    let large : h ≤ n + p.log_blowup =
    omega (arith, c.if-log_n-log2_strict.false, c.log_n.ensures) in
    sym
    (target_fits g.F.ComplexExtendable.CIRCLE_TWO_ADICITY p height h
    (c.log2_strict.ensures.power ∙ c.height.ensures) n
    (sym c.validate_height.ensures ∙ c.in_ok-validate_height.was) large)
