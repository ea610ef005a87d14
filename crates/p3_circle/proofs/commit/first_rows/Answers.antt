use Rattle.std.proofs.Common.{◌*◌, ◌%◌, ◌^◌, ◌≤◌, length, take, ◌∙◌, sym, ap, arith}
use Rattle.circle_commit.specs.RowMajorMatrix.{rows, length-rows}
use Rattle.circle_commit.specs.RowMajorMatrixView.{rows as view_rows}
use Rattle.circle_domain.specs.Domain.{log_size, shift_of}
use Rattle.circle_domain.proofs.Blocks.{cfft_order-prefix}
use Rattle.circle_domain.proofs.Powers.{pow_within}
use Rattle.circle_codewords.proofs.Opened.{counted}
use Rattle.p3_circle.proofs.Continued.{first-height}
use Rattle.p3_circle.proofs.commit.first_rows.Goals as goal

pub split_rows-requires : goal.split_rows-requires
split_rows-requires g c =
    let t = c.args.log_rows in
    let le : 2 ^ t ≤ 2 ^ log_size c.args.domain = pow_within
    t (log_size c.args.domain) c.requires.within in
    omega (
      arith,
      counted t (omega (arith, c.requires.within, c.requires.small)),
      le,
      c.requires.size,
    )

pub from_cfft_order-requires-clause-size : goal.from_cfft_order-requires-clause-size
from_cfft_order-requires-clause-size g c =
    let t = c.args.log_rows in
    let m = c.args.matrix.now in
    let le : 2 ^ t ≤ 2 ^ log_size c.args.domain = pow_within
    t (log_size c.args.domain) c.requires.within in
    let count = counted t (omega (arith, c.requires.within, c.requires.small)) in
    let within : 1 * 2 ^ t % 18446744073709551616 ≤ length (rows m) =
    omega (arith, count, le, c.requires.size, length-rows m) in
    first-height c.split_rows.result.0 (rows m) (1 * 2 ^ t % 18446744073709551616)
    c.split_rows.ensures.first within ∙ count ∙ ap (λ n. 2 ^ n) (sym c.new.ensures.size)

pub returns-clause-rows : goal.returns-clause-rows
returns-clause-rows g c =
    ap view_rows c.from_cfft_order.ensures.values ∙ c.split_rows.ensures.first
    ∙ ap (λ n. take n (rows c.args.matrix.now))
    (counted c.args.log_rows (omega (arith, c.requires.within, c.requires.small)))

pub returns-clause-points : goal.returns-clause-points
returns-clause-points g c =
    cfft_order-prefix g.F.Operations.ops g.F.ComplexExtendable.generators c.args.log_rows
    (log_size c.args.domain) (shift_of c.args.domain) c.requires.positive c.requires.within
