use Rattle.std.proofs.Common.{◌≡◌, ◌<◌, ◌∙◌, sym, arith, length}
use Rattle.std.proofs.lemmas.List.{get_or_default}
use Rattle.circle_air.specs.declared.trace.TheConstants.{LANES}
use Rattle.circle_air.specs.Lanes.{lane}
use Rattle.circle_air.specs.Values.{entry}
use Rattle.circle_air.proofs.Lanes.{lane_read}
use Rattle.circle_air.proofs.block.BlockPlace.holds_in_lane.Goals as goal

pub returns-else-not-has_row : goal.returns-else-not-has_row
returns-else-not-has_row g c =
    let k = g.F.Operations.ops in
    let r = c.args.lane in
    let ys = c.node_lanes.result.now in
    let v = c.index-node_lanes-lane.result in
    let within : r < length ys = omega (arith, c.requires.lane, c.node_lanes.ensures.count) in
    let here : v ≡ entry k (lane k LANES r c.args.values.now) c.args.constraint.node =
    c.index-node_lanes-lane.is ∙ get_or_default ys r v k.zero within
    ∙ lane_read k LANES r c.requires.lane c.args.constraint.node c.args.values.now ys
    c.requires.node c.node_lanes.ensures.values in (
      λ zero has. sym here ∙ c.is_zero.ensures.0 zero,
      λ holds. c.is_zero.ensures.1 (here ∙ holds (c.has_row.ensures.0 c.if-not-has_row.false)),
    )
