use Rattle.std.proofs.Common.{◌+◌, ◌≤◌, ◌∙◌, sym, arith}
use Rattle.circle_commit.specs.RowMajorMatrix.{height_of}
use Rattle.circle_domain.specs.Domain.{log_size}
use Rattle.p3_circle.proofs.CommitTests.{target-passed}
use Rattle.p3_circle.proofs.commit.evaluations_on.Goals as goal

pub overflow_sub-log_trace : goal.overflow_sub-log_trace
overflow_sub-log_trace g c =
    let p = c.args.params.now in
    let h = c.log2_strict-log_height.result in
    let fits =
    target-passed g.F.ComplexExtendable.CIRCLE_TWO_ADICITY p (height_of c.args.committed.now) h
    (c.log2_strict-log_height.ensures.power ∙ c.height.ensures) (log_size c.args.domain)
    (sym c.validate_target.ensures ∙ c.in_ok-validate_target.was) in
    let enough : p.log_blowup + 2 + p.log_final_poly_len ≤ h = fits.0 in
    omega (arith, enough)

pub continued_rows-requires-clause-positive : goal.continued_rows-requires-clause-positive
continued_rows-requires-clause-positive g c =
    let p = c.args.params.now in
    let h = c.log2_strict-log_height.result in
    let fits =
    target-passed g.F.ComplexExtendable.CIRCLE_TWO_ADICITY p (height_of c.args.committed.now) h
    (c.log2_strict-log_height.ensures.power ∙ c.height.ensures) (log_size c.args.domain)
    (sym c.validate_target.ensures ∙ c.in_ok-validate_target.was) in
    let enough : p.log_blowup + 2 + p.log_final_poly_len ≤ h = fits.0 in
    omega (arith, enough)

pub continued_rows-requires-clause-in_group : goal.continued_rows-requires-clause-in_group
continued_rows-requires-clause-in_group g c =
    (target-passed g.F.ComplexExtendable.CIRCLE_TWO_ADICITY c.args.params.now
    (height_of c.args.committed.now) c.log2_strict-log_height.result
    (c.log2_strict-log_height.ensures.power ∙ c.height.ensures) (log_size c.args.domain)
    (sym c.validate_target.ensures ∙ c.in_ok-validate_target.was)).1

pub continued_rows-requires-clause-large : goal.continued_rows-requires-clause-large
continued_rows-requires-clause-large g c =
    let p = c.args.params.now in
    let h = c.log2_strict-log_height.result in
    let fits =
    target-passed g.F.ComplexExtendable.CIRCLE_TWO_ADICITY p (height_of c.args.committed.now) h
    (c.log2_strict-log_height.ensures.power ∙ c.height.ensures) (log_size c.args.domain)
    (sym c.validate_target.ensures ∙ c.in_ok-validate_target.was) in
    let large : h ≤ log_size c.args.domain + p.log_blowup = fits.2 in
    omega (arith, large)

pub is_standard_of-requires-clause-below : goal.is_standard_of-requires-clause-below
is_standard_of-requires-clause-below g c =
    (target-passed g.F.ComplexExtendable.CIRCLE_TWO_ADICITY c.args.params.now
    (height_of c.args.committed.now) c.log2_strict-log_height.result
    (c.log2_strict-log_height.ensures.power ∙ c.height.ensures) (log_size c.args.domain)
    (sym c.validate_target.ensures ∙ c.in_ok-validate_target.was)).1

pub returns-clause-values : goal.returns-clause-values
returns-clause-values g c = record {
  log_height = c.log2_strict-log_height.result;
  height = sym (c.log2_strict-log_height.ensures.power ∙ c.height.ensures);
  width = c.in_ok-continued_rows.ensures.width;
  there =
      λ standard. absurd (let yes = c.is_standard_of.ensures.1 standard in
      cc (yes, c.if-is_standard_of.false));
  elsewhere = λ no. c.in_ok-continued_rows.ensures.rows;
}

pub returns-then-is_standard_of-clause-values : goal.returns-then-is_standard_of-clause-values
returns-then-is_standard_of-clause-values g c =
    let height = sym (c.log2_strict-log_height.ensures.power ∙ c.height.ensures) in
    record {
      log_height = c.log2_strict-log_height.result;
      height = height;
      width = c.in_ok-natural_rows.ensures.width;
      there = λ standard. c.in_ok-natural_rows.ensures.rows _ height;
      elsewhere = λ no. absurd (no (c.is_standard_of.ensures.0 c.if-is_standard_of.true));
    }
