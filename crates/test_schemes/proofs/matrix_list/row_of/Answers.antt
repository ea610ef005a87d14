use Rattle.std.proofs.Common.{◌≡◌, ◌∙◌, [], ap, sym, arith, get_or}
use Rattle.std.proofs.lemmas.List.{get_or_past}
use Rattle.std.proofs.lemmas.Option.{get_or_from_slice_get}
use Rattle.circle_commit.specs.RowMajorMatrix.{rows, height_of, length-rows}
use Rattle.circle_commit.specs.Mmcs.{row_at}
use Rattle.test_schemes.proofs.matrix_list.row_of.Goals as goal

pub returns-then-r-height : goal.returns-then-r-height
returns-then-r-height g c =
    let m = c.args.matrix.now in
    let same : row_at c.args.top c.height-height.result c.args.index ≡ row_at c.args.top
    (height_of m) c.args.index =
    ap (λ h. row_at c.args.top h c.args.index) c.height-height.ensures in
    c.new-then-r-height.ensures.items
    ∙ sym
    (get_or_past (rows m) (row_at c.args.top (height_of m) c.args.index) []
    (omega (arith, length-rows m, same, c.if-r-height.true, c.height-height.ensures)))

pub returns : goal.returns
returns g c =
    let m = c.args.matrix.now in
    c.in_ok-row.ensures.items
    ∙ sym
    (get_or_from_slice_get (rows m) (row_at c.args.top c.height-height.result c.args.index)
    c.row.result.now [] c.row.ensures)
    ∙ ap (λ h. get_or (rows m) (row_at c.args.top h c.args.index) []) c.height-height.ensures
