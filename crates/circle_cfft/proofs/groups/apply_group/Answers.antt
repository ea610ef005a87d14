use Rattle.std.proofs.Common.{◌≡◌, ◌≤◌, ◌<◌, ◌+◌, ◌-◌, ◌*◌, ◌^◌, ◌%◌, ◌∙◌, length, sym, ap, arith}
use Rattle.std.proofs.Common.{take, drop, subst}
use Rattle.std.proofs.Math.Nat.{mul-le-mul_right}
use Rattle.circle_cfft.specs.Butterflies.{count_of}
use Rattle.circle_cfft.specs.Groups.{block_factors, ChangesRows, in_order}
use Rattle.circle_cfft.specs.Passes.{factors_at}
use Rattle.circle_cfft.proofs.GroupSteps.{small-exponent, few-lanes, factors-long, factors-end}
use Rattle.circle_cfft.proofs.GroupSteps.{block-layer, layer-some, layer-entries, layer-pairs}
use Rattle.circle_cfft.proofs.GroupSteps.{rows-untouched, rows-layer}
use Rattle.circle_cfft.proofs.groups.apply_group.Goals as goal

pub loop-done-init : goal.loop-done-init
loop-done-init g c =
    let r = c.args.group in
    let n = length c.args.twiddles.now in
    record {
      rows = rows-untouched g.F.Operations.ops.zero g.B.Butterfly.lower g.B.Butterfly.upper
          (g.B.Order.order n) r.offset r.width r.stride n c.args.index
          (factors_at c.args.twiddles.now) c.args.block.now;
      count = omega arith;
    }

pub overflow_shl-parts : goal.overflow_shl-parts
overflow_shl-parts g c =
    let n = length c.args.twiddles.now in
    let wide : 1 ≤ c.args.group.stride = omega (arith, c.requires.group.0, c.requires.group.1) in
    let few : 2 ^ n ≤ length c.args.block.now =
    few-lanes n c.args.group.stride (length c.args.block.now) c.requires.length wide in
    let fits : 2 ^ n < 2 ^ 64 = omega arith in
    omega (arith, small-exponent n fits)

pub overflow_add-factors : goal.overflow_add-factors
overflow_add-factors g c =
    let tw = c.args.twiddles.now in
    let n = length tw in
    let l = c.next_layer-layer.result in
    let below : l < n =
    omega (
      arith,
      c.next_layer-layer.ensures,
      g.met.B.Order.is_layer n c.loop-done.done c.loop-done-test.true,
    ) in
    let enough = factors-long tw l c.args.index c.index-twiddles-layer.result c.deref.result.now
    below c.requires.factors c.index-twiddles-layer.is c.deref.ensures.value in
    omega (arith, enough, c.deref.type_inv)

pub overflow_shl-layer : goal.overflow_shl-layer
overflow_shl-layer g c =
    let n = length c.args.twiddles.now in
    let wide : 1 ≤ c.args.group.stride = omega (arith, c.requires.group.0, c.requires.group.1) in
    let few : 2 ^ n ≤ length c.args.block.now =
    few-lanes n c.args.group.stride (length c.args.block.now) c.requires.length wide in
    let fits : 2 ^ n < 2 ^ 64 = omega arith in
    omega (
      arith,
      small-exponent n fits,
      c.next_layer-layer.ensures,
      g.met.B.Order.is_layer n c.loop-done.done c.loop-done-test.true,
    )

pub overflow_mul-factors : goal.overflow_mul-factors
overflow_mul-factors g c =
    let tw = c.args.twiddles.now in
    let l = c.next_layer-layer.result in
    let below : l < length tw =
    omega (
      arith,
      c.next_layer-layer.ensures,
      g.met.B.Order.is_layer (length tw) c.loop-done.done c.loop-done-test.true,
    ) in
    let wide : 1 ≤ c.args.group.stride = omega (arith, c.requires.group.0, c.requires.group.1) in
    let small : length c.args.block.now < 2 ^ 64 = omega arith in
    let ends = factors-end tw c.args.group.stride (length c.args.block.now) c.args.index l
    c.index-twiddles-layer.result c.deref.result.now c.requires.length wide small below
    c.requires.factors c.index-twiddles-layer.is c.deref.ensures.value in
    omega (arith, ends, c.deref.type_inv)

pub overflow_mul-factors-in-loop-done : goal.overflow_mul-factors-in-loop-done
overflow_mul-factors-in-loop-done g c =
    let tw = c.args.twiddles.now in
    let l = c.next_layer-layer.result in
    let below : l < length tw =
    omega (
      arith,
      c.next_layer-layer.ensures,
      g.met.B.Order.is_layer (length tw) c.loop-done.done c.loop-done-test.true,
    ) in
    let wide : 1 ≤ c.args.group.stride = omega (arith, c.requires.group.0, c.requires.group.1) in
    let small : length c.args.block.now < 2 ^ 64 = omega arith in
    let ends = factors-end tw c.args.group.stride (length c.args.block.now) c.args.index l
    c.index-twiddles-layer.result c.deref.result.now c.requires.length wide small below
    c.requires.factors c.index-twiddles-layer.is c.deref.ensures.value in
    omega (arith, ends, c.deref.type_inv)

pub slice_bounds-factors-end : goal.slice_bounds-factors-end
slice_bounds-factors-end g c =
    let tw = c.args.twiddles.now in
    let l = c.next_layer-layer.result in
    let below : l < length tw =
    omega (
      arith,
      c.next_layer-layer.ensures,
      g.met.B.Order.is_layer (length tw) c.loop-done.done c.loop-done-test.true,
    ) in
    let wide : 1 ≤ c.args.group.stride = omega (arith, c.requires.group.0, c.requires.group.1) in
    let small : length c.args.block.now < 2 ^ 64 = omega arith in
    let ends = factors-end tw c.args.group.stride (length c.args.block.now) c.args.index l
    c.index-twiddles-layer.result c.deref.result.now c.requires.length wide small below
    c.requires.factors c.index-twiddles-layer.is c.deref.ensures.value in
    omega (arith, ends)

pub combine_parts-requires-clause-some : goal.combine_parts-requires-clause-some
combine_parts-requires-clause-some g c =
    let r = c.args.group in
    let tw = c.args.twiddles.now in
    let n = length tw in
    let l = c.next_layer-layer.result in
    let below : l < n =
    omega (
      arith,
      c.next_layer-layer.ensures,
      g.met.B.Order.is_layer n c.loop-done.done c.loop-done-test.true,
    ) in
    let wide : 1 ≤ r.stride = omega (arith, c.requires.group.0, c.requires.group.1) in
    let small : length c.args.block.now < 2 ^ 64 = omega arith in
    let read = block-layer tw r.stride (length c.args.block.now) c.args.index l
    c.index-twiddles-layer.result c.deref.result.now c.requires.length wide small below
    c.requires.factors c.index-twiddles-layer.is c.deref.ensures.value in
    layer-some n c.args.index l (1 * 2 ^ l % 18446744073709551616) (factors_at tw)
    (take ((c.args.index + 1) * (1 * 2 ^ (n - 1 - l) % 18446744073709551616) - c.args.index *
    (1 * 2 ^ (n - 1 - l) % 18446744073709551616))
    (drop (c.args.index * (1 * 2 ^ (n - 1 - l) % 18446744073709551616)) c.deref.result.now))
    read

pub combine_parts-requires-clause-length : goal.combine_parts-requires-clause-length
combine_parts-requires-clause-length g c =
    let r = c.args.group in
    let tw = c.args.twiddles.now in
    let n = length tw in
    let l = c.next_layer-layer.result in
    let below : l < n =
    omega (
      arith,
      c.next_layer-layer.ensures,
      g.met.B.Order.is_layer n c.loop-done.done c.loop-done-test.true,
    ) in
    let wide : 1 ≤ r.stride = omega (arith, c.requires.group.0, c.requires.group.1) in
    let small : length c.args.block.now < 2 ^ 64 = omega arith in
    let read = block-layer tw r.stride (length c.args.block.now) c.args.index l
    c.index-twiddles-layer.result c.deref.result.now c.requires.length wide small below
    c.requires.factors c.index-twiddles-layer.is c.deref.ensures.value in
    c.loop-done.auto.block ∙ c.requires.length
    ∙ sym (layer-entries n c.args.index l (1 * 2 ^ l % 18446744073709551616) (factors_at tw)
    (take ((c.args.index + 1) * (1 * 2 ^ (n - 1 - l) % 18446744073709551616) - c.args.index *
    (1 * 2 ^ (n - 1 - l) % 18446744073709551616))
    (drop (c.args.index * (1 * 2 ^ (n - 1 - l) % 18446744073709551616)) c.deref.result.now))
    read r.stride)

pub combine_parts-requires-clause-room : goal.combine_parts-requires-clause-room
combine_parts-requires-clause-room g c =
    let r = c.args.group in
    let tw = c.args.twiddles.now in
    let n = length tw in
    let l = c.next_layer-layer.result in
    let below : l < n =
    omega (
      arith,
      c.next_layer-layer.ensures,
      g.met.B.Order.is_layer n c.loop-done.done c.loop-done-test.true,
    ) in
    let wide : 1 ≤ r.stride = omega (arith, c.requires.group.0, c.requires.group.1) in
    let small : length c.args.block.now < 2 ^ 64 = omega arith in
    let read = block-layer tw r.stride (length c.args.block.now) c.args.index l
    c.index-twiddles-layer.result c.deref.result.now c.requires.length wide small below
    c.requires.factors c.index-twiddles-layer.is c.deref.ensures.value in
    let next : (c.loop-done.done + 1) * 2 ^ (n - 1) ≤ n * 2 ^ (n - 1) =
    let le : c.loop-done.done + 1 ≤ n = omega (arith, c.loop-done-test.true) in
    mul-le-mul_right (2 ^ (n - 1)) le in
    omega (
      arith,
      layer-pairs n c.args.index l (1 * 2 ^ l % 18446744073709551616) (factors_at tw)
          (take ((c.args.index + 1) * (1 * 2 ^ (n - 1 - l) % 18446744073709551616) - c.args.index *
          (1 * 2 ^ (n - 1 - l) % 18446744073709551616))
          (drop (c.args.index * (1 * 2 ^ (n - 1 - l) % 18446744073709551616)) c.deref.result.now))
          read,
      next,
      c.loop-done.invariant.count,
      c.requires.room,
    )

pub loop-done-preserved : goal.loop-done-preserved
loop-done-preserved g c =
    let r = c.args.group in
    let tw = c.args.twiddles.now in
    let n = length tw in
    let l = c.next_layer-layer.result in
    let below : l < n =
    omega (
      arith,
      c.next_layer-layer.ensures,
      g.met.B.Order.is_layer n c.loop-done.done c.loop-done-test.true,
    ) in
    let wide : 1 ≤ r.stride = omega (arith, c.requires.group.0, c.requires.group.1) in
    let small : length c.args.block.now < 2 ^ 64 = omega arith in
    let read = block-layer tw r.stride (length c.args.block.now) c.args.index l
    c.index-twiddles-layer.result c.deref.result.now c.requires.length wide small below
    c.requires.factors c.index-twiddles-layer.is c.deref.ensures.value in
    record {
      rows = rows-layer g.F.Operations.ops.zero g.B.Butterfly.lower g.B.Butterfly.upper
          (g.B.Order.order n) r.offset r.width r.stride n c.args.index (factors_at tw)
          c.args.block.now
          c.loop-done.done l (1 * 2 ^ l % 18446744073709551616)
          (take
          ((c.args.index + 1) * (1 * 2 ^ (n - 1 - l) % 18446744073709551616) - c.args.index *
          (1 * 2 ^ (n - 1 - l) % 18446744073709551616))
          (drop (c.args.index * (1 * 2 ^ (n - 1 - l) % 18446744073709551616))
          c.deref.result.now))
          c.loop-done.block c.combine_parts.new.block c.next_layer-layer.ensures read
          c.loop-done.invariant.rows c.combine_parts.ensures.rows;
      count = c.combine_parts.ensures.count
          ∙ omega (
            arith,
            layer-pairs n c.args.index l (1 * 2 ^ l % 18446744073709551616) (factors_at tw)
                (take
                ((c.args.index + 1) * (1 * 2 ^ (n - 1 - l) % 18446744073709551616) -
                c.args.index *
                (1 * 2 ^ (n - 1 - l) % 18446744073709551616))
                (drop (c.args.index * (1 * 2 ^ (n - 1 - l) % 18446744073709551616))
                c.deref.result.now))
                read,
            c.loop-done.invariant.count,
          );
    }

pub returns-clause-rows : goal.returns-clause-rows
returns-clause-rows g c =
    let r = c.args.group in
    let tw = c.args.twiddles.now in
    let n = length tw in
    let end : c.loop-done.done ≡ n =
    omega (arith, c.loop-done-test.false, c.loop-done.auto.done-end) in
    subst (λ m. ChangesRows g.F.Operations.ops.zero r.offset r.width r.stride (2 ^ n)
    (in_order g.B.Butterfly.lower g.B.Butterfly.upper (g.B.Order.order n) 1
    (block_factors n c.args.index (factors_at tw)) m) c.args.block.now c.loop-done.block) end
    c.loop-done.invariant.rows

pub returns-clause-count : goal.returns-clause-count
returns-clause-count g c =
    let n = length c.args.twiddles.now in
    let end : c.loop-done.done ≡ n =
    omega (arith, c.loop-done-test.false, c.loop-done.auto.done-end) in
    c.loop-done.invariant.count ∙ ap (λ m. count_of c.args.butterflies.now + m * 2 ^ (n - 1)) end
