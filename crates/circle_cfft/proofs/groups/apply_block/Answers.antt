use Rattle.std.proofs.Common.{rules, ◌≡◌, ◌≤◌, ◌<◌, ◌+◌, ◌-◌, ◌*◌, ◌^◌, ◌%◌, ◌∙◌, length, sym, ap}
use Rattle.std.proofs.Common.{arith}
use Rattle.std.proofs.Math.Nat.{mul-le-mul_right}
use Rattle.std.proofs.lemmas.Nat.{one_shl}
use Rattle.circle_cfft.specs.Butterflies.{count_of}
use Rattle.circle_cfft.specs.Groups.{block_factors, in_order, scaled}
use Rattle.circle_cfft.specs.Passes.{factors_at}
use Rattle.circle_cfft.proofs.GroupSteps.{small-exponent, few-lanes, lane-within}
use Rattle.circle_cfft.proofs.GroupBlocks.{columns-none, columns-more, columns-all}
use Rattle.circle_cfft.proofs.groups.apply_block.Goals as goal

pub loop-row-init : goal.loop-row-init
loop-row-init g c =
    let k = g.F.Operations.ops in
    let n = length c.args.twiddles.now in
    record {
      columns = columns-none k.zero (c.args.rows * c.args.width) (2 ^ n)
          (λ xs. scaled k c.args.scale
          (in_order g.B.Butterfly.lower g.B.Butterfly.upper (g.B.Order.order n) 1
          (block_factors n c.args.index (factors_at c.args.twiddles.now)) n xs))
          c.args.block.now c.args.width;
      count = omega arith;
    }

pub overflow_mul-group : goal.overflow_mul-group
overflow_mul-group g c =
    let stride = c.args.rows * c.args.width in
    let row : c.loop-row.row * c.args.width ≤ stride = let le : c.loop-row.row ≤ c.args.rows =
    omega (arith, c.loop-row-test.true) in mul-le-mul_right c.args.width le in
    let small : stride ≤ length c.args.block.now = lane-within
    (length c.args.twiddles.now) stride (length c.args.block.now) c.requires.length in
    search rules

pub overflow_mul-group-in-loop-row : goal.overflow_mul-group-in-loop-row
overflow_mul-group-in-loop-row g c =
    let stride = c.args.rows * c.args.width in
    let small : stride ≤ length c.args.block.now = lane-within
    (length c.args.twiddles.now) stride (length c.args.block.now) c.requires.length in
    search rules

pub apply_group-requires-clause-group : goal.apply_group-requires-clause-group
apply_group-requires-clause-group g c =
    let next : (c.loop-row.row + 1) * c.args.width ≤ c.args.rows * c.args.width =
    let le : c.loop-row.row + 1 ≤ c.args.rows = omega (arith, c.loop-row-test.true) in
    mul-le-mul_right c.args.width le in
    (c.requires.wide, omega (arith, next))

pub apply_group-requires-clause-factors : goal.apply_group-requires-clause-factors
apply_group-requires-clause-factors g c = c.requires.factors

pub scale_group-requires-clause-group : goal.scale_group-requires-clause-group
scale_group-requires-clause-group g c =
    let next : (c.loop-row.row + 1) * c.args.width ≤ c.args.rows * c.args.width =
    let le : c.loop-row.row + 1 ≤ c.args.rows = omega (arith, c.loop-row-test.true) in
    mul-le-mul_right c.args.width le in
    (c.requires.wide, omega (arith, next))

pub scale_group-requires-clause-length : goal.scale_group-requires-clause-length
scale_group-requires-clause-length g c =
    let next : (c.loop-row.row + 1) * c.args.width ≤ c.args.rows * c.args.width =
    let le : c.loop-row.row + 1 ≤ c.args.rows = omega (arith, c.loop-row-test.true) in
    mul-le-mul_right c.args.width le in
    let n = length c.args.twiddles.now in
    let stride = c.args.rows * c.args.width in
    let wide : 1 ≤ stride = omega (arith, next, c.requires.wide) in
    let few : 2 ^ n ≤ length c.args.block.now =
    few-lanes n stride (length c.args.block.now) c.requires.length wide in
    let fits : 2 ^ n < 2 ^ 64 = omega arith in
    c.apply_group.auto.block ∙ c.loop-row.auto.block ∙ c.requires.length
    ∙ ap (λ m. m * stride) (sym (one_shl n 64 (small-exponent n fits)))

pub apply_group-requires-clause-room : goal.apply_group-requires-clause-room
apply_group-requires-clause-room g c =
    let n = length c.args.twiddles.now in
    let each = n * 2 ^ (n - 1) in
    let next : (c.loop-row.row + 1) * each ≤ c.args.rows * each =
    let le : c.loop-row.row + 1 ≤ c.args.rows = omega (arith, c.loop-row-test.true) in
    mul-le-mul_right each le in
    omega (arith, next, c.loop-row.invariant.count, c.requires.room)

pub overflow_shl-twiddles : goal.overflow_shl-twiddles
overflow_shl-twiddles g c =
    let n = length c.args.twiddles.now in
    let stride = c.args.rows * c.args.width in
    let next : (c.loop-row.row + 1) * c.args.width ≤ stride =
    let le : c.loop-row.row + 1 ≤ c.args.rows = omega (arith, c.loop-row-test.true) in
    mul-le-mul_right c.args.width le in
    let wide : 1 ≤ stride = omega (arith, next, c.requires.wide) in
    let few : 2 ^ n ≤ length c.args.block.now =
    few-lanes n stride (length c.args.block.now) c.requires.length wide in
    let fits : 2 ^ n < 2 ^ 64 = omega arith in
    small-exponent n fits

pub loop-row-preserved : goal.loop-row-preserved
loop-row-preserved g c =
    let k = g.F.Operations.ops in
    let n = length c.args.twiddles.now in
    let row = c.loop-row.row in
    let width = c.args.width in
    let stride = c.args.rows * width in
    let next : (row + 1) * width ≤ stride = let le : row + 1 ≤ c.args.rows =
    omega (arith, c.loop-row-test.true) in mul-le-mul_right width le in
    let wide : 1 ≤ stride = omega (arith, next, c.requires.wide) in
    let few : 2 ^ n ≤ length c.args.block.now =
    few-lanes n stride (length c.args.block.now) c.requires.length wide in
    let fits : 2 ^ n < 2 ^ 64 = omega arith in
    let lanes : 1 * 2 ^ n % 18446744073709551616 ≡ 2 ^ n = one_shl n 64 (small-exponent n fits) in
    record {
      columns = columns-more k.zero stride (2 ^ n) (1 * 2 ^ n % 18446744073709551616) row width
          (in_order g.B.Butterfly.lower g.B.Butterfly.upper (g.B.Order.order n) 1
          (block_factors n c.args.index (factors_at c.args.twiddles.now)) n)
          (scaled k c.args.scale)
          c.args.block.now c.loop-row.block c.apply_group.new.block c.scale_group.new.block lanes
          (omega (arith, next)) c.loop-row.invariant.columns c.apply_group.ensures.rows
          c.scale_group.ensures;
      count = c.apply_group.ensures.count ∙ omega (arith, c.loop-row.invariant.count);
    }

pub returns-clause-values : goal.returns-clause-values
returns-clause-values g c =
    let tw = c.args.twiddles.now in
    let n = length tw in
    let stride = c.args.rows * c.args.width in
    let end : c.loop-row.row ≡ c.args.rows =
    omega (arith, c.loop-row-test.false, c.loop-row.auto.row-end) in
    let first : 1 * c.args.width ≤ stride = mul-le-mul_right c.args.width c.requires.some in
    let wide : 1 ≤ stride = omega (arith, first, c.requires.wide) in
    columns-all g.F.Operations.ops g.F.Operations.laws.ring g.B.Butterfly.lower g.B.Butterfly.upper
    (g.B.Order.order n) n stride c.args.index (factors_at tw) c.args.scale c.args.block.now
    (g.met.B.Order.is_layer n) c.requires.factors c.requires.length (c.loop-row.row * c.args.width)
    c.loop-row.block wide (ap (λ m. m * c.args.width) end) c.loop-row.auto.block
    c.loop-row.invariant.columns

pub returns-clause-count : goal.returns-clause-count
returns-clause-count g c =
    let n = length c.args.twiddles.now in
    let end : c.loop-row.row ≡ c.args.rows =
    omega (arith, c.loop-row-test.false, c.loop-row.auto.row-end) in
    c.loop-row.invariant.count ∙ ap (λ m. count_of c.args.butterflies.now + m * (n * 2 ^ (n - 1)))
    end
