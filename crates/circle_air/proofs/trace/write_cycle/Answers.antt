use Rattle.std.proofs.Common.{◌+◌, ◌%◌, ◌<◌, ◌∙◌, ap, arith, length, get_or}
use Rattle.std.proofs.lemmas.List.{get_or_default}
use Rattle.circle_air.proofs.Cycles.{place_more, written_more}
use Rattle.circle_air.proofs.trace.write_cycle.Goals as goal

pub loop-entry-preserved : goal.loop-entry-preserved
loop-entry-preserved g c =
    let inv = c.loop-entry.invariant in
    let xs = c.args.column.now in
    let i = c.loop-entry.entry-index in
    let v = c.index-column-at.result in
    let room : i < length c.loop-entry.lanes =
    omega (arith, c.loop-entry-test.true, c.loop-entry.auto.lanes) in
    record {
      at = place_more c.args.first i (length xs) c.loop-entry.at c.following-at.result inv.at
          c.following-at.ensures.next;
      below = c.following-at.ensures.below;
      written = written_more c.loop-entry.lanes
          (λ r d. get_or xs ((c.args.first + r) % length xs) d) i v room inv.written
          (λ d. c.index-column-at.is ∙ get_or_default xs c.loop-entry.at v d inv.below
          ∙ ap (λ n. get_or xs n d) inv.at);
    }
