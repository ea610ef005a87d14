use Rattle.std.proofs.Common.{◌+◌, ◌<◌, ◌≤◌, sym, ◌∙◌, arith}
use Rattle.circle_commit.specs.RowMajorMatrix.{height_of}
use Rattle.circle_prover.proofs.CommittedHeights.{height_small, height_large, height_fits}
use Rattle.circle_prover.proofs.heights.validate_height.Goals as goal

pub returns-then-log_height-saturating_add : goal.returns-then-log_height-saturating_add
returns-then-log_height-saturating_add g c =
    let p = c.args.params.now in
    let h = c.log2_strict-log_height.result in
    let low : h < p.log_blowup + 2 + p.log_final_poly_len =
    omega (arith, c.log2_strict-log_height.ensures.bound) in
    sym (height_small g.F.ComplexExtendable.CIRCLE_TWO_ADICITY p (height_of c.args.matrix.now) h
    (c.log2_strict-log_height.ensures.power ∙ c.height.ensures) low)

pub returns-then-log_height-CIRCLE_TWO_ADICITY : goal.returns-then-log_height-CIRCLE_TWO_ADICITY
returns-then-log_height-CIRCLE_TWO_ADICITY g c =
    let p = c.args.params.now in
    let h = c.log2_strict-log_height.result in
    let enough : p.log_blowup + 2 + p.log_final_poly_len ≤ h =
    omega (arith, c.log2_strict-log_height.ensures.bound) in
    let high : g.F.ComplexExtendable.CIRCLE_TWO_ADICITY ≤ h = omega arith in
    sym (height_large g.F.ComplexExtendable.CIRCLE_TWO_ADICITY p (height_of c.args.matrix.now) h
    (c.log2_strict-log_height.ensures.power ∙ c.height.ensures) enough high)

pub returns : goal.returns
returns g c =
    let p = c.args.params.now in
    let h = c.log2_strict-log_height.result in
    let enough : p.log_blowup + 2 + p.log_final_poly_len ≤ h =
    omega (arith, c.log2_strict-log_height.ensures.bound) in
    let low : h < g.F.ComplexExtendable.CIRCLE_TWO_ADICITY = omega arith in
    sym (height_fits g.F.ComplexExtendable.CIRCLE_TWO_ADICITY p (height_of c.args.matrix.now) h
    (c.log2_strict-log_height.ensures.power ∙ c.height.ensures) enough low)
