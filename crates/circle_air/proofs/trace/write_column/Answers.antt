use Rattle.std.proofs.Common.{◌≡◌, ◌+◌, ◌%◌, ◌<◌, ◌∙◌, sym, ap, arith, [], length, get_or}
use Rattle.std.proofs.lemmas.List.{get_or_default}
use Rattle.std.proofs.lemmas.Option.{get_or_from_slice_get}
use Rattle.circle_air.proofs.Cycles.{place_more, written_more}
use Rattle.circle_air.proofs.trace.write_column.Goals as goal

pub loop-entry-preserved : goal.loop-entry-preserved
loop-entry-preserved g c =
    let inv = c.loop-entry.invariant in
    let rows = g.M.Matrix.rows c.args.rows.now in
    let i = c.loop-entry.entry-index in
    let at = c.loop-entry.row in
    let row = c.row.result.now in
    let v = c.index-row-column.result in
    let column = c.args.column in
    let room : i < length c.loop-entry.lanes =
    omega (arith, c.loop-entry-test.true, c.loop-entry.auto.lanes) in
    let here : get_or rows at [] ≡ row = get_or_from_slice_get rows at row [] c.row.ensures in
    let wide : column < length row =
    omega (
      arith,
      c.requires.column,
      ap length here,
      g.met.M.Matrix.width_law c.args.rows.now at [] inv.below,
    ) in record {
      height = inv.height;
      at = place_more c.args.first i (length rows) at c.following-row.result inv.at
          (c.following-row.ensures.next ∙ ap (λ n. (at + 1) % n) inv.height);
      below = omega (arith, c.following-row.ensures.below, inv.height);
      written = written_more c.loop-entry.lanes
          (λ r d. get_or (get_or rows ((c.args.first + r) % length rows) []) column d) i v room
          inv.written
          (λ d. c.index-row-column.is ∙ get_or_default row column v d wide
          ∙ ap (λ xs. get_or xs column d) (sym here)
          ∙ ap (λ n. get_or (get_or rows n []) column d) inv.at);
    }
