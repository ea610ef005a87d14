use Rattle.std.proofs.Common.{◌+◌, ◌%◌, ◌<◌, ◌∙◌, ap, arith, length}
use Rattle.std.proofs.lemmas.List.{get_or_default}
use Rattle.circle_air.specs.Values.{entry}
use Rattle.circle_air.proofs.Cycles.{place_more, written_more}
use Rattle.circle_quotient.proofs.lanes.write_cycle.Goals as goal

pub loop-lane-preserved : goal.loop-lane-preserved
loop-lane-preserved g c =
    let k = g.F.Operations.ops in
    let inv = c.loop-lane.invariant in
    let xs = c.args.column.now in
    let i = c.loop-lane.lane-index in
    let v = c.index-column-at.result in
    let room : i < length c.loop-lane.lanes =
    omega (arith, c.loop-lane-test.true, c.loop-lane.auto.lanes) in
    record {
      at = place_more c.args.first i (length xs) c.loop-lane.at c.following-at.result inv.at
          c.following-at.ensures.next;
      below = c.following-at.ensures.below;
      written = written_more c.loop-lane.lanes
          (λ r d. entry k xs ((c.args.first + r) % length xs)) i v room inv.written
          (λ d. c.index-column-at.is ∙ get_or_default xs c.loop-lane.at v k.zero inv.below
          ∙ ap (λ n. entry k xs n) inv.at);
    }
