use Rattle.std.proofs.Common.{rules, ◌≡◌, ◌≤◌, ◌<◌, ◌+◌, ◌-◌, ◌*◌, ◌^◌, ◌%◌, ◌∙◌, length, sym, ap}
use Rattle.std.proofs.Common.{refl, arith, drop, length-drop}
use Rattle.std.proofs.Math.Nat.{mul-le-mul_right}
use Rattle.std.proofs.lemmas.List.{length-take-le}
use borrow.Rule.Slice.PartMut.{mid_of}
use Rattle.circle_cfft.specs.Butterflies.{count_of}
use Rattle.circle_cfft.specs.Passes.{factors_at}
use Rattle.circle_cfft.proofs.GroupSteps.{small-exponent, few-lanes, lane-within, rows-some}
use Rattle.circle_cfft.proofs.GroupPasses.{LayersOf, blocks, blocks-whole, block-entries}
use Rattle.circle_cfft.proofs.GroupPasses.{block-size, blocks-number, block-ends, lane-some}
use Rattle.circle_cfft.proofs.GroupPasses.{block-within, block-has, pairs-counted, pairs-half}
use Rattle.circle_cfft.proofs.GroupPasses.{pairs-room, blocks-none, blocks-more, blocks-all}
use Rattle.circle_cfft.proofs.groups.apply_pass.Goals as goal

pub overflow_mul-size : goal.overflow_mul-size
overflow_mul-size g c =
    let tw = c.args.twiddles.now in
    let n = length tw in
    let stride = c.args.rows * c.args.width in
    let count = length c.args.entries.now in
    let layers : LayersOf (factors_at tw) n stride count =
    record {
      some = c.requires.some;
      some_layer = c.requires.some_layer;
      are =
          c.requires.layers;
    } in
    let lane : stride ≤ 2 ^ n * stride = lane-within n stride (2 ^ n * stride) refl in
    let small : stride ≤ count = omega (arith, lane, block-within layers) in
    search rules

pub overflow_shl-size : goal.overflow_shl-size
overflow_shl-size g c =
    let tw = c.args.twiddles.now in
    let n = length tw in
    let stride = c.args.rows * c.args.width in
    let count = length c.args.entries.now in
    let layers : LayersOf (factors_at tw) n stride count =
    record {
      some = c.requires.some;
      some_layer = c.requires.some_layer;
      are =
          c.requires.layers;
    } in
    let few : 2 ^ n ≤ 2 ^ n * stride =
    few-lanes n stride (2 ^ n * stride) refl (lane-some layers) in
    let fits : 2 ^ n < 2 ^ 64 = omega (arith, block-within layers) in
    small-exponent n fits

pub nonzero_div-index-end : goal.nonzero_div-index-end
nonzero_div-index-end g c =
    let tw = c.args.twiddles.now in
    let n = length tw in
    let stride = c.args.rows * c.args.width in
    let count = length c.args.entries.now in
    let layers : LayersOf (factors_at tw) n stride count =
    record {
      some = c.requires.some;
      some_layer = c.requires.some_layer;
      are =
          c.requires.layers;
    } in
    let small : count < 2 ^ 64 = omega arith in
    omega (arith, block-size layers small, block-entries layers)

pub loop-index-init : goal.loop-index-init
loop-index-init g c =
    let tw = c.args.twiddles.now in
    let n = length tw in
    let stride = c.args.rows * c.args.width in
    let count = length c.args.entries.now in
    let layers : LayersOf (factors_at tw) n stride count =
    record {
      some = c.requires.some;
      some_layer = c.requires.some_layer;
      are =
          c.requires.layers;
    } in
    record {
      values = blocks-none layers g.F.Operations.ops g.F.Operations.laws.ring g.B.Butterfly.lower
          g.B.Butterfly.upper (g.B.Order.order n) (g.met.B.Order.is_layer n) c.args.scale
          c.args.entries.now refl;
      count = omega arith;
    }

pub offset_bounds-entries-index : goal.offset_bounds-entries-index
offset_bounds-entries-index g c =
    let start : c.loop-index.index *
    (c.args.rows * c.args.width * 2 ^ length c.args.twiddles.now % 18446744073709551616) ≤
    length c.loop-index.entries =
    let tw = c.args.twiddles.now in
    let n = length tw in
    let stride = c.args.rows * c.args.width in
    let count = length c.args.entries.now in
    let layers : LayersOf (factors_at tw) n stride count =
    record {
      some = c.requires.some;
      some_layer = c.requires.some_layer;
      are =
          c.requires.layers;
    } in
    let small : count < 2 ^ 64 = omega arith in
    let ends =
    block-ends layers small c.loop-index.index
    (omega (arith, blocks-number layers small, c.loop-index-test.true)) in
    omega (arith, ends, c.loop-index.auto.entries) in
    search rules

pub overflow_mul-block : goal.overflow_mul-block
overflow_mul-block g c =
    let tw = c.args.twiddles.now in
    let n = length tw in
    let stride = c.args.rows * c.args.width in
    let count = length c.args.entries.now in
    let layers : LayersOf (factors_at tw) n stride count =
    record {
      some = c.requires.some;
      some_layer = c.requires.some_layer;
      are =
          c.requires.layers;
    } in
    let small : count < 2 ^ 64 = omega arith in
    let ends =
    block-ends layers small c.loop-index.index
    (omega (arith, blocks-number layers small, c.loop-index-test.true)) in
    omega (arith, ends, small)

pub overflow_mul-block-in-loop-index : goal.overflow_mul-block-in-loop-index
overflow_mul-block-in-loop-index g c =
    let tw = c.args.twiddles.now in
    let n = length tw in
    let stride = c.args.rows * c.args.width in
    let count = length c.args.entries.now in
    let layers : LayersOf (factors_at tw) n stride count =
    record {
      some = c.requires.some;
      some_layer = c.requires.some_layer;
      are =
          c.requires.layers;
    } in
    let small : count < 2 ^ 64 = omega arith in
    let ends =
    block-ends layers small c.loop-index.index
    (omega (arith, blocks-number layers small, c.loop-index-test.true)) in
    omega (arith, ends, small)

pub slice_bounds-block-end : goal.slice_bounds-block-end
slice_bounds-block-end g c =
    let tw = c.args.twiddles.now in
    let n = length tw in
    let stride = c.args.rows * c.args.width in
    let count = length c.args.entries.now in
    let layers : LayersOf (factors_at tw) n stride count =
    record {
      some = c.requires.some;
      some_layer = c.requires.some_layer;
      are =
          c.requires.layers;
    } in
    let small : count < 2 ^ 64 = omega arith in
    let ends =
    block-ends layers small c.loop-index.index
    (omega (arith, blocks-number layers small, c.loop-index-test.true)) in
    omega (arith, ends, c.loop-index.auto.entries)

pub apply_block-requires-clause-some : goal.apply_block-requires-clause-some
apply_block-requires-clause-some g c =
    let tw = c.args.twiddles.now in
    let n = length tw in
    let stride = c.args.rows * c.args.width in
    let count = length c.args.entries.now in
    let layers : LayersOf (factors_at tw) n stride count =
    record {
      some = c.requires.some;
      some_layer = c.requires.some_layer;
      are =
          c.requires.layers;
    } in
    rows-some c.args.rows c.args.width (lane-some layers)

pub apply_block-requires-clause-length : goal.apply_block-requires-clause-length
apply_block-requires-clause-length g c =
    let tw = c.args.twiddles.now in
    let n = length tw in
    let stride = c.args.rows * c.args.width in
    let count = length c.args.entries.now in
    let layers : LayersOf (factors_at tw) n stride count =
    record {
      some = c.requires.some;
      some_layer = c.requires.some_layer;
      are =
          c.requires.layers;
    } in
    let small : count < 2 ^ 64 = omega arith in
    let size = (stride * 2 ^ n % 18446744073709551616) in
    let is_size : size ≡ 2 ^ n * stride = block-size layers small in
    let inside : c.loop-index.index < blocks layers =
    omega (arith, blocks-number layers small, c.loop-index-test.true) in
    let whole : (blocks layers) * size ≡ count = ap (λ m. (blocks layers) * m) is_size
    ∙ blocks-whole layers in
    let next : (c.loop-index.index + 1) * size ≤ (blocks layers) * size =
    let le : c.loop-index.index + 1 ≤ blocks layers = omega (arith, inside) in
    mul-le-mul_right size le in
    let start = c.loop-index.index * size in
    let len = (c.loop-index.index + 1) * size - start in
    let one : len ≡ size = omega arith in
    length-take-le len (drop start c.loop-index.entries)
    (omega (
      arith,
      next,
      whole,
      c.loop-index.auto.entries,
      length-drop start c.loop-index.entries,
    )) ∙ one ∙ is_size

pub apply_block-requires-clause-factors : goal.apply_block-requires-clause-factors
apply_block-requires-clause-factors g c =
    let tw = c.args.twiddles.now in
    let n = length tw in
    let stride = c.args.rows * c.args.width in
    let count = length c.args.entries.now in
    let layers : LayersOf (factors_at tw) n stride count =
    record {
      some = c.requires.some;
      some_layer = c.requires.some_layer;
      are =
          c.requires.layers;
    } in
    let small : count < 2 ^ 64 = omega arith in
    block-has layers c.loop-index.index
    (omega (arith, blocks-number layers small, c.loop-index-test.true))

pub apply_block-requires-clause-room : goal.apply_block-requires-clause-room
apply_block-requires-clause-room g c =
    let tw = c.args.twiddles.now in
    let n = length tw in
    let stride = c.args.rows * c.args.width in
    let count = length c.args.entries.now in
    let layers : LayersOf (factors_at tw) n stride count =
    record {
      some = c.requires.some;
      some_layer = c.requires.some_layer;
      are =
          c.requires.layers;
    } in
    let small : count < 2 ^ 64 = omega arith in
    let each = c.args.rows * (n * 2 ^ (n - 1)) in
    let inside : c.loop-index.index < blocks layers =
    omega (arith, blocks-number layers small, c.loop-index-test.true) in
    let next : (c.loop-index.index + 1) * each ≤ blocks layers * each =
    let le : c.loop-index.index + 1 ≤ blocks layers = omega (arith, inside) in
    mul-le-mul_right each le in
    omega (
      arith,
      next,
      pairs-counted layers c.args.width c.args.rows refl,
      pairs-room layers c.args.width c.args.rows refl c.requires.wide,
      c.loop-index.invariant.count,
      c.requires.room,
    )

pub loop-index-preserved : goal.loop-index-preserved
loop-index-preserved g c =
    let tw = c.args.twiddles.now in
    let n = length tw in
    let stride = c.args.rows * c.args.width in
    let count = length c.args.entries.now in
    let layers : LayersOf (factors_at tw) n stride count =
    record {
      some = c.requires.some;
      some_layer = c.requires.some_layer;
      are =
          c.requires.layers;
    } in
    let small : count < 2 ^ 64 = omega arith in
    let i = c.loop-index.index in
    let size = (stride * 2 ^ n % 18446744073709551616) in
    let is_size : size ≡ 2 ^ n * stride = block-size layers small in
    let inside : i < blocks layers =
    omega (arith, blocks-number layers small, c.loop-index-test.true) in
    let start = i * size in
    let len = (i + 1) * size - start in
    let one : len ≡ size = omega arith in
    let whole : (blocks layers) * size ≡ count = ap (λ m. (blocks layers) * m) is_size
    ∙ blocks-whole layers in
    let next : (i + 1) * size ≤ (blocks layers) * size = let le : i + 1 ≤ blocks layers =
    omega (arith, inside) in mul-le-mul_right size le in
    let part : length (mid_of start len c.loop-index.entries) ≡ len =
    length-take-le len (drop start c.loop-index.entries)
    (omega (
      arith,
      next,
      whole,
      c.loop-index.auto.entries,
      length-drop start c.loop-index.entries,
    )) in
    record {
      values = blocks-more layers g.F.Operations.ops g.F.Operations.laws.ring g.B.Butterfly.lower
          g.B.Butterfly.upper (g.B.Order.order n) (g.met.B.Order.is_layer n) c.args.scale
          c.args.entries.now refl
          i start len c.loop-index.entries c.apply_block.new.block c.loop-index.invariant.values
          inside (ap (λ m. i * m) is_size) (one ∙ is_size) c.loop-index.auto.entries
          (c.apply_block.auto.block ∙ part) c.apply_block.ensures.values;
      count = c.apply_block.ensures.count ∙ omega (arith, c.loop-index.invariant.count);
    }

pub returns-clause-values : goal.returns-clause-values
returns-clause-values g c =
    let tw = c.args.twiddles.now in
    let n = length tw in
    let stride = c.args.rows * c.args.width in
    let count = length c.args.entries.now in
    let layers : LayersOf (factors_at tw) n stride count =
    record {
      some = c.requires.some;
      some_layer = c.requires.some_layer;
      are =
          c.requires.layers;
    } in
    let small : count < 2 ^ 64 = omega arith in
    let end : c.loop-index.index ≡ blocks layers =
    omega (
      arith,
      blocks-number layers small,
      c.loop-index-test.false,
      c.loop-index.auto.index-end,
    ) in
    blocks-all layers g.F.Operations.ops g.F.Operations.laws.ring g.B.Butterfly.lower
    g.B.Butterfly.upper (g.B.Order.order n) (g.met.B.Order.is_layer n) c.args.scale
    c.args.entries.now refl
    c.loop-index.index c.loop-index.entries c.loop-index.invariant.values end
    c.loop-index.auto.entries

pub returns-clause-count : goal.returns-clause-count
returns-clause-count g c = λ half e.
    let tw = c.args.twiddles.now in
    let n = length tw in
    let stride = c.args.rows * c.args.width in
    let count = length c.args.entries.now in
    let layers : LayersOf (factors_at tw) n stride count =
    record {
      some = c.requires.some;
      some_layer = c.requires.some_layer;
      are =
          c.requires.layers;
    } in
    let small : count < 2 ^ 64 = omega arith in
    let end : c.loop-index.index ≡ blocks layers =
    omega (
      arith,
      blocks-number layers small,
      c.loop-index-test.false,
      c.loop-index.auto.index-end,
    ) in
    c.loop-index.invariant.count
    ∙ ap (λ m. count_of c.args.butterflies.now + m * (c.args.rows * (n * 2 ^ (n - 1)))) end
    ∙ ap (λ m. count_of c.args.butterflies.now + m)
    (pairs-counted layers c.args.width c.args.rows refl
    ∙ ap (λ m. n * m)
    (sym (pairs-half layers c.args.width c.args.rows refl half c.requires.wide e)))
