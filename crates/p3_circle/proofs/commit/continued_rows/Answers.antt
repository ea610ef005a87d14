use Rattle.std.proofs.Common.{◌≡◌, ◌+◌, ◌*◌, ◌%◌, ◌^◌, ◌≤◌, length, take, ◌∙◌, sym, ap, subst}
use Rattle.std.proofs.Common.{arith}
use Rattle.std.proofs.lemmas.Result.{IfOk-weaker}
use Rattle.circle_commit.specs.RowMajorMatrix.{rows, width_of, height_of, length-rows}
use Rattle.circle_commit.specs.RowMajorMatrixView.{rows as view_rows, width_of as view_width}
use Rattle.circle_domain.specs.Domain.{log_size, shift_of}
use Rattle.circle_domain.specs.Order.{IsGenuine}
use Rattle.circle_domain.specs.Ordering.{other_order}
use Rattle.circle_domain.proofs.Powers.{pow_within}
use Rattle.circle_plane.specs.CircleEvaluations.{cfft_values}
use Rattle.circle_codewords.proofs.Opened.{counted}
use Rattle.circle_codewords.proofs.Prefix.{first-genuine}
use Rattle.p3_circle.proofs.Continued.{first-height, continued}
use Rattle.p3_circle.proofs.commit.continued_rows.Goals as goal

pub split_rows-requires : goal.split_rows-requires
split_rows-requires g c =
    let t = c.args.log_trace in
    let small : t ≤ 62 =
    omega (
      arith,
      c.requires.extended,
      c.requires.in_group,
      g.met.F.ComplexExtendable.at_most_62,
    ) in
    let le : 2 ^ t ≤ 2 ^ c.args.log_height = pow_within t c.args.log_height c.requires.extended in
    omega (arith, counted t small, le, c.requires.height)

pub from_cfft_order-requires-clause-size : goal.from_cfft_order-requires-clause-size
from_cfft_order-requires-clause-size g c =
    let t = c.args.log_trace in
    let m = c.args.committed.now in
    let small : t ≤ 62 =
    omega (
      arith,
      c.requires.extended,
      c.requires.in_group,
      g.met.F.ComplexExtendable.at_most_62,
    ) in
    let le : 2 ^ t ≤ 2 ^ c.args.log_height = pow_within t c.args.log_height c.requires.extended in
    let count = counted t small in
    let within : 1 * 2 ^ t % 18446744073709551616 ≤ length (rows m) =
    omega (arith, count, le, c.requires.height, length-rows m) in
    first-height c.split_rows.result.0 (rows m) (1 * 2 ^ t % 18446744073709551616)
    c.split_rows.ensures.first within
    ∙ count ∙ ap (λ n. 2 ^ n) (sym c.new-trace_domain.ensures.size)

pub interpolate-requires-clause-genuine : goal.interpolate-requires-clause-genuine
interpolate-requires-clause-genuine g c =
    let k = g.F.Operations.ops in
    let t = c.args.log_trace in
    let e = c.from_cfft_order.result.domain in
    let same = c.from_cfft_order.ensures.domain in
    let size : log_size e ≡ t = ap log_size same ∙ c.new-trace_domain.ensures.size in
    let shift : shift_of e ≡ g.F.ComplexExtendable.generators (c.args.log_height + 1) =
    ap shift_of same ∙ c.new-trace_domain.ensures.shift ∙ c.generator.ensures in
    subst (λ n. IsGenuine k n (shift_of e)) (sym size)
    (subst (IsGenuine k t) (sym shift)
    (first-genuine g.F.Operations.laws g.met.F.ComplexExtendable.generators_law t c.args.log_height
    c.requires.positive c.requires.extended c.requires.in_group))

pub evaluate-requires-clause-at_most_size : goal.evaluate-requires-clause-at_most_size
evaluate-requires-clause-at_most_size g c =
    let t = c.args.log_trace in
    let e = c.from_cfft_order.result.domain in
    let size : log_size e ≡ t = ap log_size c.from_cfft_order.ensures.domain
    ∙ c.new-trace_domain.ensures.size in
    let tall : height_of c.in_ok-coeffs.coeffs ≡ 2 ^ t = c.in_ok-coeffs.ensures.height
    ∙ ap (λ n. 2 ^ n) size in
    let le : 2 ^ t ≤ 2 ^ log_size c.args.domain = pow_within
    t (log_size c.args.domain) c.requires.large in
    omega (arith, tall, le)

pub returns-clause-rows : goal.returns-clause-rows
returns-clause-rows g c =
    let k = g.F.Operations.ops in
    let gen = g.F.ComplexExtendable.generators in
    let t = c.args.log_trace in
    let h = c.args.log_height in
    let m = c.args.committed.now in
    let d = c.args.domain in
    let given = c.from_cfft_order.result in
    let e = given.domain in
    let view = c.split_rows.result.0 in
    let values = c.in_ok-values.values in
    let coeffs = c.in_ok-coeffs.coeffs in
    let small : t ≤ 62 =
    omega (
      arith,
      c.requires.extended,
      c.requires.in_group,
      g.met.F.ComplexExtendable.at_most_62,
    ) in
    let same = c.from_cfft_order.ensures.domain in
    let size : log_size e ≡ t = ap log_size same ∙ c.new-trace_domain.ensures.size in
    let shift : shift_of e ≡ gen (h + 1) = ap shift_of same ∙ c.new-trace_domain.ensures.shift
    ∙ c.generator.ensures in
    let wide : view_width given.values ≡ width_of m = ap view_width c.from_cfft_order.ensures.values
    ∙ c.split_rows.ensures.widths.0 in
    let seen : view_rows given.values ≡ take (2 ^ t) (rows m) =
    ap view_rows c.from_cfft_order.ensures.values ∙ c.split_rows.ensures.first
    ∙ ap (λ n. take n (rows m)) (counted t small) in
    IfOk-weaker c.to_row_major_matrix.result _ _
    (λ made is. continued k gen t h e d (width_of m) (view_width given.values)
    (view_rows given.values) (take (2 ^ t) (rows m)) size shift wide seen
    (rows made) (rows coeffs) (width_of coeffs) c.in_ok-coeffs.ensures.width
    c.in_ok-coeffs.ensures.values c.in_ok-coeffs.ensures.only
    (is ∙ c.to_natural_order.ensures.rows
    ∙ ap (λ x. other_order (log_size x) (rows (cfft_values values)))
    c.in_ok-values.ensures.domain ∙ c.in_ok-values.ensures.values))
    c.to_row_major_matrix.ensures.rows
