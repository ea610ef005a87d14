use Rattle.std.proofs.Common.{◌≤◌, ◌+◌, ◌-◌, ◌*◌, ◌∙◌, sym, length, arith, refl, rules, subst}
use Rattle.circle_cfft.specs.Groups.{ChangesRows, scaled}
use Rattle.circle_cfft.proofs.Lanes.{row-fits}
use Rattle.circle_cfft.proofs.LaneWrites.{rows-none, mapped_column, mapped-more, mapped-all}
use Rattle.circle_cfft.proofs.groups.scale_group.Goals as goal

pub loop-lane-init : goal.loop-lane-init
loop-lane-init g c =
    let k = g.F.Operations.ops in
    let r = c.args.group in
    rows-none k.zero r.offset r.width r.stride c.args.lanes
    (mapped_column k.zero (λ a. k.mul a c.in-Some.factor) r.offset r.width r.stride c.args.lanes
    c.args.block.now) c.args.block.now

pub overflow_mul-start : goal.overflow_mul-start
overflow_mul-start g c =
    let r = c.args.group in
    let i = c.loop-lane.lane in
    let fits : i * r.stride + r.offset + r.width ≤ length c.loop-lane.block =
    row-fits g.F.Operations.ops.zero r.offset r.width r.stride c.args.lanes i
    (i * r.stride + r.offset) r.width refl refl c.requires.group.1 c.loop-lane-test.true
    c.loop-lane.block (c.loop-lane.auto.block ∙ c.requires.length) in
    omega (arith, fits)

pub overflow_add-start : goal.overflow_add-start
overflow_add-start g c =
    let r = c.args.group in
    let i = c.loop-lane.lane in
    let fits : i * r.stride + r.offset + r.width ≤ length c.loop-lane.block =
    row-fits g.F.Operations.ops.zero r.offset r.width r.stride c.args.lanes i
    (i * r.stride + r.offset) r.width refl refl c.requires.group.1 c.loop-lane-test.true
    c.loop-lane.block (c.loop-lane.auto.block ∙ c.requires.length) in
    omega (arith, fits)

pub overflow_add-start-in-loop-lane : goal.overflow_add-start-in-loop-lane
overflow_add-start-in-loop-lane g c =
    let r = c.args.group in
    let i = c.loop-lane.lane in
    let fits : i * r.stride + r.offset + r.width ≤ length c.loop-lane.block =
    row-fits g.F.Operations.ops.zero r.offset r.width r.stride c.args.lanes i
    (i * r.stride + r.offset) r.width refl refl c.requires.group.1 c.loop-lane-test.true
    c.loop-lane.block (c.loop-lane.auto.block ∙ c.requires.length) in
    omega (arith, fits)

pub slice_bounds-scale_entries-end : goal.slice_bounds-scale_entries-end
slice_bounds-scale_entries-end g c =
    let r = c.args.group in
    let i = c.loop-lane.lane in
    let fits : i * r.stride + r.offset + r.width ≤ length c.loop-lane.block =
    row-fits g.F.Operations.ops.zero r.offset r.width r.stride c.args.lanes i
    (i * r.stride + r.offset) r.width refl refl c.requires.group.1 c.loop-lane-test.true
    c.loop-lane.block (c.loop-lane.auto.block ∙ c.requires.length) in
    omega (arith, fits)

pub offset_bounds-block-start : goal.offset_bounds-block-start
offset_bounds-block-start g c =
    let r = c.args.group in
    let i = c.loop-lane.lane in
    let fits : i * r.stride + r.offset + r.width ≤ length c.loop-lane.block =
    row-fits g.F.Operations.ops.zero r.offset r.width r.stride c.args.lanes i
    (i * r.stride + r.offset) r.width refl refl c.requires.group.1 c.loop-lane-test.true
    c.loop-lane.block (c.loop-lane.auto.block ∙ c.requires.length) in
    search rules

pub loop-lane-preserved : goal.loop-lane-preserved
loop-lane-preserved g c =
    let k = g.F.Operations.ops in
    let r = c.args.group in
    let i = c.loop-lane.lane in
    let start = i * r.stride + r.offset in
    mapped-more k.zero (λ a. k.mul a c.in-Some.factor) r.offset r.width r.stride c.args.lanes
    c.args.block.now i start (start + r.width - start) c.loop-lane.block
    c.scale_entries.new.entries
    c.loop-lane.invariant refl (omega arith) c.requires.group.1 c.loop-lane-test.true
    (c.loop-lane.auto.block ∙ c.requires.length) c.scale_entries.ensures

pub returns : goal.returns
returns g c =
    let k = g.F.Operations.ops in
    let r = c.args.group in
    subst
    (λ s. ChangesRows k.zero r.offset r.width r.stride c.args.lanes (scaled k s)
    c.args.block.now c.loop-lane.block) (sym c.in-Some.is)
    (mapped-all k.zero (λ a. k.mul a c.in-Some.factor) r.offset r.width r.stride c.args.lanes
    c.args.block.now c.loop-lane.lane c.loop-lane.block c.loop-lane.invariant
    c.loop-lane-test.false)
