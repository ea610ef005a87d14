use Rattle.std.proofs.Common.{◌≡◌, ◌≤◌, ◌+◌, ◌-◌, ◌*◌, ◌∙◌, ap, length, arith, refl, rules, drop}
use Rattle.std.proofs.Common.{length-drop}
use Rattle.std.proofs.Math.Nat.{mul-le-mul_right, mul-le-mul_left}
use Rattle.std.proofs.lemmas.List.{length-take-le}
use borrow.Rule.Slice.PartMut.{mid_of}
use Rattle.circle_cfft.specs.Butterflies.{count_of}
use Rattle.circle_cfft.proofs.LaneWrites.{layered-none, layered-more, layered-all}
use Rattle.circle_cfft.proofs.groups.combine_parts.Goals as goal

pub overflow_add-size : goal.overflow_add-size
overflow_add-size g c =
    let twice = c.args.half + c.args.half in
    let part : 1 * (twice * c.args.group.stride) ≤ length c.args.factors.now *
    (twice * c.args.group.stride) =
    mul-le-mul_right (twice * c.args.group.stride) c.requires.some in
    let lane : twice * 1 ≤ twice * c.args.group.stride = let wide : 1 ≤ c.args.group.stride =
    omega (arith, c.requires.group.0, c.requires.group.1) in mul-le-mul_left twice wide in
    let small : twice ≤ length c.args.block.now = omega (arith, part, lane, c.requires.length) in
    search rules

pub overflow_mul-size : goal.overflow_mul-size
overflow_mul-size g c =
    let size = (c.args.half + c.args.half) * c.args.group.stride in
    let part : 1 * size ≤ length c.args.factors.now * size =
    mul-le-mul_right size c.requires.some in
    let small : size ≤ length c.args.block.now = omega (arith, part, c.requires.length) in
    search rules

pub loop-i-init : goal.loop-i-init
loop-i-init g c =
    let r = c.args.group in
    record {
      rows = layered-none g.F.Operations.ops.zero g.B.Butterfly.lower g.B.Butterfly.upper r.offset
          r.width r.stride c.args.half c.args.factors.now c.args.block.now;
      count = omega arith;
    }

pub overflow_mul-part : goal.overflow_mul-part
overflow_mul-part g c =
    let i = c.loop-i.i in
    let size = (c.args.half + c.args.half) * c.args.group.stride in
    let next : (i + 1) * size ≤ length c.args.factors.now * size =
    let le : i + 1 ≤ length c.args.factors.now = omega (arith, c.loop-i-test.true) in
    mul-le-mul_right size le in
    omega (arith, next, c.loop-i.auto.block, c.requires.length)

pub overflow_mul-part-in-loop-i : goal.overflow_mul-part-in-loop-i
overflow_mul-part-in-loop-i g c =
    let i = c.loop-i.i in
    let size = (c.args.half + c.args.half) * c.args.group.stride in
    let next : (i + 1) * size ≤ length c.args.factors.now * size =
    let le : i + 1 ≤ length c.args.factors.now = omega (arith, c.loop-i-test.true) in
    mul-le-mul_right size le in
    omega (arith, next, c.loop-i.auto.block, c.requires.length)

pub slice_bounds-part-end : goal.slice_bounds-part-end
slice_bounds-part-end g c =
    let i = c.loop-i.i in
    let size = (c.args.half + c.args.half) * c.args.group.stride in
    let next : (i + 1) * size ≤ length c.args.factors.now * size =
    let le : i + 1 ≤ length c.args.factors.now = omega (arith, c.loop-i-test.true) in
    mul-le-mul_right size le in
    omega (arith, next, c.loop-i.auto.block, c.requires.length)

pub offset_bounds-block-i : goal.offset_bounds-block-i
offset_bounds-block-i g c =
    let i = c.loop-i.i in
    let size = (c.args.half + c.args.half) * c.args.group.stride in
    let start : i * size ≤ length c.loop-i.block =
    let next : (i + 1) * size ≤ length c.args.factors.now * size =
    let le : i + 1 ≤ length c.args.factors.now = omega (arith, c.loop-i-test.true) in
    mul-le-mul_right size le in
    omega (arith, next, c.loop-i.auto.block, c.requires.length) in
    search rules

pub combine_lanes-requires-clause-room : goal.combine_lanes-requires-clause-room
combine_lanes-requires-clause-room g c =
    let next : (c.loop-i.i + 1) * c.args.half ≤ length c.args.factors.now * c.args.half =
    let le : c.loop-i.i + 1 ≤ length c.args.factors.now = omega (arith, c.loop-i-test.true) in
    mul-le-mul_right c.args.half le in
    omega (arith, next, c.loop-i.invariant.count, c.requires.room)

pub loop-i-preserved : goal.loop-i-preserved
loop-i-preserved g c =
    let r = c.args.group in
    let i = c.loop-i.i in
    let size = (c.args.half + c.args.half) * r.stride in
    let start = i * size in
    let len = (i + 1) * size - start in
    let long : length c.loop-i.block ≡ length c.args.factors.now * size = c.loop-i.auto.block
    ∙ c.requires.length in
    let next : (i + 1) * size ≤ length c.args.factors.now * size =
    let le : i + 1 ≤ length c.args.factors.now = omega (arith, c.loop-i-test.true) in
    mul-le-mul_right size le in
    let is_part : len ≡ size = omega arith in
    let whole : length (mid_of start len c.loop-i.block) ≡ len =
    length-take-le len (drop start c.loop-i.block)
    (omega (arith, next, long, length-drop start c.loop-i.block)) in
    record {
      rows = layered-more g.F.Operations.ops.zero g.B.Butterfly.lower g.B.Butterfly.upper r.offset
          r.width r.stride c.args.half c.args.factors.now c.args.block.now i start len
          c.loop-i.block c.combine_lanes.new.part
          c.index-factors-i.result c.loop-i.invariant.rows c.loop-i-test.true c.index-factors-i.is
          refl is_part long c.combine_lanes.ensures.rows (c.combine_lanes.auto.part ∙ whole);
      count = c.combine_lanes.ensures.count ∙ omega (arith, c.loop-i.invariant.count);
    }

pub returns-clause-rows : goal.returns-clause-rows
returns-clause-rows g c =
    let r = c.args.group in
    layered-all g.F.Operations.ops.zero g.B.Butterfly.lower g.B.Butterfly.upper r.offset r.width
    r.stride c.args.half c.args.factors.now c.args.block.now c.loop-i.i c.loop-i.block
    c.loop-i.invariant.rows
    (omega (arith, c.loop-i-test.false, c.loop-i.auto.i-end))

pub returns-clause-count : goal.returns-clause-count
returns-clause-count g c =
    let end : c.loop-i.i ≡ length c.args.factors.now =
    omega (arith, c.loop-i-test.false, c.loop-i.auto.i-end) in
    c.loop-i.invariant.count ∙ ap (λ n. count_of c.args.butterflies.now + n * c.args.half) end
