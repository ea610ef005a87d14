use Rattle.std.proofs.Common.{◌≡◌, ◌^◌, ◌≤◌, ◌∙◌, ap, map, arith}
use Rattle.circle_commit.specs.RowMajorMatrix.{rows, width_of}
use Rattle.circle_domain.specs.Values.{values_at}
use Rattle.circle_plane.specs.CircleEvaluations.{cfft_values}
use Rattle.circle_plane.specs.Coefficients.{BeginsWithSmaller}
use Rattle.circle_domain.specs.Domain.{log_size, shift_of}
use Rattle.circle_domain.specs.Order.{cfft_order, natural_order}
use Rattle.circle_domain.specs.Ordering.{other_order}
use Rattle.circle_domain.proofs.Powers.{pow_within}
use Rattle.circle_domain.proofs.Results.{if_ok_both}
use Rattle.circle_domain.proofs.ZeroRows.{zeros-values}
use Rattle.circle_plane.proofs.cfft.CircleEvaluations.extrapolate.Goals as goal

pub evaluate-requires-clause-at_most_size : goal.evaluate-requires-clause-at_most_size
evaluate-requires-clause-at_most_size g c =
    let le : 2 ^ log_size c.args.self.domain ≤ 2 ^ log_size c.args.target = pow_within
    (log_size c.args.self.domain) (log_size c.args.target) c.requires.larger in
    omega (arith, le, c.in_ok-coeffs.ensures.height)

pub returns-clause-values : goal.returns-clause-values
returns-clause-values g c =
    let k = g.F.Operations.ops in
    let gen = g.F.ComplexExtendable.generators in
    let d = c.args.self.domain in
    let n = log_size d in
    let m = log_size c.args.target in
    let t = shift_of c.args.target in
    let width = g.M.MatrixShape.width c.args.self.values in
    let given = g.M.Matrix.rows c.args.self.values in
    let coeffs = c.in_ok-coeffs.coeffs in
    let same : width_of coeffs ≡ width = c.in_ok-coeffs.ensures.width in
    let le : 2 ^ n ≤ 2 ^ m = pow_within n m c.requires.larger in
    let Cfft = λ (e : _). rows (cfft_values e) ≡ map (values_at k (rows coeffs) (width_of coeffs))
    (cfft_order k gen m t) in
    let Natural = λ (e : _). other_order m (rows (cfft_values e))
    ≡ map (values_at k (rows coeffs) (width_of coeffs)) (natural_order k gen m t) in
    let Prefix = λ (e : _). BeginsWithSmaller k gen c.args.target (width_of coeffs) (rows coeffs)
    (rows (cfft_values e)) in
    if_ok_both (λ e. Cfft e × Natural e) Prefix _ c.evaluate.result
    (λ e both prefix.
    let at_target = both.0 ∙ ap (λ w. map (values_at k (rows coeffs) w) (cfft_order k gen m t))
    same in
    record {
      coeffs = rows coeffs;
      told = c.in_ok-coeffs.ensures.values;
      cfft = at_target;
      natural = both.1 ∙ ap (λ w. map (values_at k (rows coeffs) w) (natural_order k gen m t)) same;
      prefix = λ i positive within. prefix i positive within
          ∙ ap (λ w. map (values_at k (rows coeffs) w) (cfft_order k gen i t)) same;
      padded = zeros-values g.F.Operations.laws.ring gen n m (shift_of d) t width (rows coeffs)
          given (rows (cfft_values e)) le c.in_ok-coeffs.ensures.values at_target;
    })
    (if_ok_both Cfft Natural (λ e. Cfft e × Natural e) c.evaluate.result
    (λ e there natural. (there, natural)) c.evaluate.ensures.cfft c.evaluate.ensures.values)
    c.evaluate.ensures.prefix
