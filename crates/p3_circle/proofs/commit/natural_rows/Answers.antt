use Rattle.std.proofs.Common.{◌≡◌, ◌∙◌, ap, arith}
use Rattle.std.proofs.lemmas.List.{take_all}
use Rattle.std.proofs.lemmas.Result.{IfOk-weaker}
use Rattle.circle_commit.specs.RowMajorMatrix.{rows, height_of, length-rows}
use Rattle.circle_commit.specs.RowMajorMatrixView.{rows as view_rows, height_of as view_height}
use Rattle.circle_domain.specs.Ordering.{other_order}
use Rattle.p3_circle.proofs.Continued.{first-height}
use Rattle.p3_circle.proofs.commit.natural_rows.Goals as goal

pub cfft_perm_rows-requires : goal.cfft_perm_rows-requires
cfft_perm_rows-requires g c =
    let m = c.args.matrix.now in
    let tall : view_height c.split_rows.result.0 ≡ c.height.result =
    first-height c.split_rows.result.0 (rows m) c.height.result c.split_rows.ensures.first
    (omega (arith, c.height.ensures, length-rows m)) in
    (c.requires.0, tall ∙ c.height.ensures ∙ c.requires.1)

pub returns-clause-rows : goal.returns-clause-rows
returns-clause-rows g c =
    let m = c.args.matrix.now in
    let view = c.split_rows.result.0 in
    let all : view_rows view ≡ rows m = c.split_rows.ensures.first
    ∙ take_all c.height.result (rows m) (omega (arith, c.height.ensures, length-rows m)) in
    let tall : view_height view ≡ height_of m =
    first-height view (rows m) c.height.result c.split_rows.ensures.first
    (omega (arith, c.height.ensures, length-rows m)) ∙ c.height.ensures in
    IfOk-weaker c.to_row_major_matrix.result _ _
    (λ made is n power. is ∙ c.cfft_perm_rows.ensures.rows n (tall ∙ power)
    ∙ ap (other_order n) all)
    c.to_row_major_matrix.ensures.rows
