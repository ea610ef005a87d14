use Rattle.std.proofs.Common.{◌∙◌, sym, arith}
use Rattle.circle_air.specs.declared.trace.TheConstants.{LANES}
use Rattle.circle_air.proofs.Lanes.{lane_read, zero_within}
use Rattle.circle_air.proofs.block.BlockPlace.holds.Goals as goal

pub offset_bounds-node_lanes-from : goal.offset_bounds-node_lanes-from
offset_bounds-node_lanes-from g c =
    let within = c.lanes-from.ensures in
    omega (arith, within.order, within.end, c.node_lanes.ensures.count)

pub slice_bounds-are_zero-end : goal.slice_bounds-are_zero-end
slice_bounds-are_zero-end g c =
    let within = c.lanes-from.ensures in
    omega (arith, within.order, within.end, c.node_lanes.ensures.count)

pub returns : goal.returns
returns g c true r lane row has =
    let k = g.F.Operations.ops in
    let ys = c.node_lanes.result.now in
    let place = c.lanes-from.result in
    let within = c.lanes-from.ensures.has r lane row has in
    sym
    (lane_read k LANES r lane c.args.constraint.node c.args.values.now ys c.requires
    c.node_lanes.ensures.values)
    ∙ zero_within k place.0 place.1 r ys within.0 within.1
    (omega (arith, c.lanes-from.ensures.end, c.node_lanes.ensures.count))
    (c.are_zero.ensures.0 true)
