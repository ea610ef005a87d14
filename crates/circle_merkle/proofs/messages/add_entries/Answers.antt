use Rattle.std.proofs.Common.{◌++◌, ◌∙◌, ◌<◌, ◌≤◌, [], append-nil, refl, sym, ap, length, take}
use Rattle.std.proofs.Common.{arith, get_or}
use Rattle.std.specs.List.{flat_map}
use Rattle.std.proofs.lemmas.List.{take_all}
use Rattle.std.proofs.lemmas.Option.{get_or_from_slice_get}
use Rattle.circle_commit.specs.declared.matrix.Dimensions.{Dimensions}
use Rattle.circle_merkle.specs.Rows.{bytes_of_height}
use Rattle.circle_merkle.proofs.OpenedBytes.{opened-with, opened-without}
use Rattle.circle_merkle.proofs.messages.add_entries.Goals as goal
use Rattle.circle_merkle.proofs.messages.add_entries.Goals.{then-height+in_ok-add_row, else-height}

pub loop-j-preserved : goal.loop-j-preserved
loop-j-preserved g c =
    let dims = g.R.RowOfEach.dimensions c.args.rows.now in
    let rows = g.R.RowOfEach.rows c.args.rows.now in
    let bytes = g.T.ElementBytes.bytes in
    let before = c.args.messages.now.items in
    let j = c.loop-j.j in
    let height = c.args.height in
    let nothing : Dimensions = record { width = 0; height = 0 } in
    let dim = get_or dims j nothing in
    let short : j < length dims = omega (arith, c.loop-j-test.true, c.count-j-end.ensures) in
    let long : j < length rows = omega (arith, short, g.met.R.RowOfEach.one_each c.args.rows.now) in
    elim c.if-height.branch [
      | then-height+in_ok-add_row w ↦
          let row = w.row.result.now in
          let at = get_or_from_slice_get rows j row [] w.row.ensures in
          ap (λ v. v.items) w.messages-is
          ∙ w.in_ok-add_row.ensures
          ∙ ap (λ xs. xs ++ flat_map bytes row) c.loop-j.invariant
          ∙ sym (opened-with bytes height dims rows j dim nothing row [] short long refl at before
          (sym (c.height.ensures nothing) ∙ w.if-height.true))
      | else-height w ↦
          ap (λ v. v.items) w.messages-is
          ∙ c.loop-j.invariant
          ∙ sym (opened-without bytes height dims rows j dim nothing (get_or rows j []) [] short
          long refl refl before (λ same. w.if-height.false (c.height.ensures nothing ∙ same)))
    ]

pub loop-j-init : goal.loop-j-init
loop-j-init g c = sym (append-nil c.args.messages.now.items)

pub height-requires : goal.height-requires
height-requires g c = omega (arith, c.loop-j-test.true, c.count-j-end.ensures)

pub row-requires : goal.row-requires
row-requires g c = omega (arith, c.loop-j-test.true, c.count-j-end.ensures)

pub returns : goal.returns
returns g c =
    let dims = g.R.RowOfEach.dimensions c.args.rows.now in
    let rows = g.R.RowOfEach.rows c.args.rows.now in
    let j = c.loop-j.j in
    let before = c.args.messages.now.items in
    let bytes = bytes_of_height g.T.ElementBytes.bytes in
    let short : length dims ≤ j = omega (arith, c.loop-j-test.false, c.count-j-end.ensures) in
    let long : length rows ≤ j = omega (arith, short, g.met.R.RowOfEach.one_each c.args.rows.now) in
    c.loop-j.invariant
    ∙ ap (λ ds. before ++ bytes ds c.args.height (take j rows)) (take_all j dims short)
    ∙ ap (λ rs. before ++ bytes dims c.args.height rs) (take_all j rows long)
