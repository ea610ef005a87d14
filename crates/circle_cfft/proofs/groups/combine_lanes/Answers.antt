use Rattle.std.proofs.Common.{◌≡◌, ◌≤◌, ◌+◌, ◌-◌, ◌*◌, ◌∙◌, length, arith, refl, rules}
use Rattle.circle_cfft.proofs.Lanes.{row-fits}
use Rattle.circle_cfft.proofs.LaneWrites.{paired-none, paired-more, paired-all}
use Rattle.circle_cfft.proofs.groups.combine_lanes.Goals as goal

pub loop-lane-init : goal.loop-lane-init
loop-lane-init g c =
    let r = c.args.group in
    record {
      rows = paired-none g.F.Operations.ops.zero g.B.Butterfly.lower g.B.Butterfly.upper
          c.args.factor r.offset r.width r.stride c.args.half c.split_at_mut-lows.result.0.now
          c.split_at_mut-lows.result.1.now;
      count = omega arith;
    }

pub overflow_mul-start : goal.overflow_mul-start
overflow_mul-start g c =
    let r = c.args.group in
    let i = c.loop-lane.lane in
    let fits : i * r.stride + r.offset + r.width ≤ length c.loop-lane.lows =
    row-fits g.F.Operations.ops.zero r.offset r.width r.stride c.args.half i
    (i * r.stride + r.offset) r.width refl refl c.requires.group.1 c.loop-lane-test.true
    c.loop-lane.lows (c.loop-lane.auto.lows ∙ c.split_at_mut-lows.ensures.front_len) in
    omega (arith, fits)

pub overflow_add-start : goal.overflow_add-start
overflow_add-start g c =
    let r = c.args.group in
    let i = c.loop-lane.lane in
    let fits : i * r.stride + r.offset + r.width ≤ length c.loop-lane.lows =
    row-fits g.F.Operations.ops.zero r.offset r.width r.stride c.args.half i
    (i * r.stride + r.offset) r.width refl refl c.requires.group.1 c.loop-lane-test.true
    c.loop-lane.lows (c.loop-lane.auto.lows ∙ c.split_at_mut-lows.ensures.front_len) in
    omega (arith, fits)

pub overflow_add-end : goal.overflow_add-end
overflow_add-end g c =
    let r = c.args.group in
    let i = c.loop-lane.lane in
    let fits : i * r.stride + r.offset + r.width ≤ length c.loop-lane.lows =
    row-fits g.F.Operations.ops.zero r.offset r.width r.stride c.args.half i
    (i * r.stride + r.offset) r.width refl refl c.requires.group.1 c.loop-lane-test.true
    c.loop-lane.lows (c.loop-lane.auto.lows ∙ c.split_at_mut-lows.ensures.front_len) in
    omega (arith, fits)

pub slice_bounds-combine_rows-end : goal.slice_bounds-combine_rows-end
slice_bounds-combine_rows-end g c =
    let r = c.args.group in
    let i = c.loop-lane.lane in
    let fits : i * r.stride + r.offset + r.width ≤ length c.loop-lane.lows =
    row-fits g.F.Operations.ops.zero r.offset r.width r.stride c.args.half i
    (i * r.stride + r.offset) r.width refl refl c.requires.group.1 c.loop-lane-test.true
    c.loop-lane.lows (c.loop-lane.auto.lows ∙ c.split_at_mut-lows.ensures.front_len) in
    omega (arith, fits)

pub slice_bounds-combine_rows-end-in-loop-lane : goal.slice_bounds-combine_rows-end-in-loop-lane
slice_bounds-combine_rows-end-in-loop-lane g c =
    let r = c.args.group in
    let i = c.loop-lane.lane in
    let fits : i * r.stride + r.offset + r.width ≤ length c.loop-lane.highs =
    row-fits g.F.Operations.ops.zero r.offset r.width r.stride c.args.half i
    (i * r.stride + r.offset) r.width refl refl c.requires.group.1 c.loop-lane-test.true
    c.loop-lane.highs
    (omega (
      arith,
      c.loop-lane.auto.highs,
      c.requires.length,
      c.split_at_mut-lows.ensures.back_len,
    )) in
    omega (arith, fits)

pub offset_bounds-lows-start : goal.offset_bounds-lows-start
offset_bounds-lows-start g c =
    let r = c.args.group in
    let i = c.loop-lane.lane in
    let fits : i * r.stride + r.offset + r.width ≤ length c.loop-lane.lows =
    row-fits g.F.Operations.ops.zero r.offset r.width r.stride c.args.half i
    (i * r.stride + r.offset) r.width refl refl c.requires.group.1 c.loop-lane-test.true
    c.loop-lane.lows (c.loop-lane.auto.lows ∙ c.split_at_mut-lows.ensures.front_len) in
    search rules

pub offset_bounds-highs-start : goal.offset_bounds-highs-start
offset_bounds-highs-start g c =
    let r = c.args.group in
    let i = c.loop-lane.lane in
    let fits : i * r.stride + r.offset + r.width ≤ length c.loop-lane.highs =
    row-fits g.F.Operations.ops.zero r.offset r.width r.stride c.args.half i
    (i * r.stride + r.offset) r.width refl refl c.requires.group.1 c.loop-lane-test.true
    c.loop-lane.highs
    (omega (
      arith,
      c.loop-lane.auto.highs,
      c.requires.length,
      c.split_at_mut-lows.ensures.back_len,
    )) in
    search rules

pub combine_rows-requires-clause-room : goal.combine_rows-requires-clause-room
combine_rows-requires-clause-room g c =
    omega (arith, c.loop-lane.invariant.count, c.loop-lane-test.true, c.requires.room)

pub loop-lane-preserved : goal.loop-lane-preserved
loop-lane-preserved g c =
    let r = c.args.group in
    let i = c.loop-lane.lane in
    let start = i * r.stride + r.offset in
    let front : length c.split_at_mut-lows.result.0.now ≡ c.args.half * r.stride =
    c.split_at_mut-lows.ensures.front_len in
    let back : length c.split_at_mut-lows.result.1.now ≡ c.args.half * r.stride =
    omega (arith, c.requires.length, c.split_at_mut-lows.ensures.back_len) in
    record {
      rows = paired-more g.F.Operations.ops.zero g.B.Butterfly.lower g.B.Butterfly.upper
          c.args.factor r.offset r.width r.stride c.args.half c.split_at_mut-lows.result.0.now
          c.split_at_mut-lows.result.1.now
          i start (start + r.width - start) c.loop-lane.lows c.loop-lane.highs
          c.loop-lane.invariant.rows refl (omega arith) c.requires.group.1 c.loop-lane-test.true
          (c.loop-lane.auto.lows ∙ front) (c.loop-lane.auto.highs ∙ back)
          c.combine_rows.new.lows c.combine_rows.new.highs c.combine_rows.ensures.low
          c.combine_rows.ensures.high;
      count = c.combine_rows.ensures.count ∙ omega (arith, c.loop-lane.invariant.count);
    }

pub returns-clause-rows : goal.returns-clause-rows
returns-clause-rows g c =
    let r = c.args.group in
    let front : length c.split_at_mut-lows.result.0.now ≡ c.args.half * r.stride =
    c.split_at_mut-lows.ensures.front_len in
    paired-all g.F.Operations.ops.zero g.B.Butterfly.lower g.B.Butterfly.upper c.args.factor
    r.offset r.width r.stride c.args.half c.split_at_mut-lows.result.0.now
    c.split_at_mut-lows.result.1.now
    c.loop-lane.lane c.loop-lane.lows c.loop-lane.highs c.args.part.now c.loop-lane.invariant.rows
    c.loop-lane-test.false c.split_at_mut-lows.ensures.value front
    (c.loop-lane.auto.lows ∙ front)

pub returns-clause-count : goal.returns-clause-count
returns-clause-count g c =
    omega (arith, c.loop-lane.invariant.count, c.loop-lane-test.false, c.loop-lane.auto.lane-end)
