use Rattle.std.proofs.Common.{rules, ◌≡◌, ◌+◌, ◌*◌, ◌≤◌, sym, ◌∙◌, ap, arith, length, take, drop}
use Rattle.std.proofs.Common.{◌-◌, ◌++◌, length-drop}
use Rattle.std.proofs.lemmas.List.{length-take-le}
use Rattle.std.proofs.Math.Nat.{mul-le-mul_right}
use Rattle.circle_cfft.proofs.BlockParts.{part-more, part-end}
use Rattle.circle_cfft.proofs.PairBlocks.{descend_rest, descend_rest-more, descend_rest-none}
use Rattle.circle_cfft.proofs.layers.descend_pair.Goals as goal

pub overflow_mul-start-in-loop-i : goal.overflow_mul-start-in-loop-i
overflow_mul-start-in-loop-i g c =
    let i = c.loop-i.i in
    let below : (i + 1) * (4 * c.args.quarter) ≤ length c.args.uppers.now * (4 * c.args.quarter) =
    let le : i + 1 ≤ length c.args.uppers.now = omega (arith, c.loop-i-test.true) in
    mul-le-mul_right (4 * c.args.quarter) le in
    omega (arith, below, c.requires.values, c.loop-i.auto.values)

pub overflow_add-block : goal.overflow_add-block
overflow_add-block g c =
    let i = c.loop-i.i in
    let below : (i + 1) * (4 * c.args.quarter) ≤ length c.args.uppers.now * (4 * c.args.quarter) =
    let le : i + 1 ≤ length c.args.uppers.now = omega (arith, c.loop-i-test.true) in
    mul-le-mul_right (4 * c.args.quarter) le in
    omega (arith, below, c.requires.values, c.loop-i.auto.values)

pub slice_bounds-block-end : goal.slice_bounds-block-end
slice_bounds-block-end g c =
    let i = c.loop-i.i in
    let below : (i + 1) * (4 * c.args.quarter) ≤ length c.args.uppers.now * (4 * c.args.quarter) =
    let le : i + 1 ≤ length c.args.uppers.now = omega (arith, c.loop-i-test.true) in
    mul-le-mul_right (4 * c.args.quarter) le in
    omega (arith, below, c.requires.values, c.loop-i.auto.values)

pub offset_bounds-values-start : goal.offset_bounds-values-start
offset_bounds-values-start g c =
    let i = c.loop-i.i in
    let start : i * (4 * c.args.quarter) ≤ length c.loop-i.values =
    let below : (i + 1) * (4 * c.args.quarter) ≤ length c.args.uppers.now * (4 * c.args.quarter) =
    let le : i + 1 ≤ length c.args.uppers.now = omega (arith, c.loop-i-test.true) in
    mul-le-mul_right (4 * c.args.quarter) le in
    omega (arith, below, c.requires.values, c.loop-i.auto.values) in
    search rules

pub loop-i-preserved : goal.loop-i-preserved
loop-i-preserved g c =
    let low = g.B.Butterfly.lower in
    let high = g.B.Butterfly.upper in
    let quarter = c.args.quarter in
    let uppers = c.args.uppers.now in
    let lowers = c.args.lowers.now in
    let values = c.loop-i.values in
    let i = c.loop-i.i in
    let size = (quarter + quarter) + (quarter + quarter) in
    let start = i * (4 * quarter) in
    let len = start + 4 * quarter - start in
    let e_start : start ≡ i * size = let e : 4 * quarter ≡ size = omega arith in
    ap (λ m. i * m) e in
    let e_len : len ≡ size = omega arith in
    let below : (i + 1) * size ≤ length uppers * size = let le : i + 1 ≤ length uppers =
    omega (arith, c.loop-i-test.true) in mul-le-mul_right size le in
    let fits : start + len ≤ length values =
    omega (arith, below, c.requires.values, c.loop-i.auto.values, e_start, e_len) in
    let left : length (drop start values) ≡ length values - start = length-drop start values in
    let enough : len ≤ length (drop start values) = omega (arith, left, fits) in
    let long : length (take len (drop start values)) ≡ len =
    length-take-le len (drop start values) enough in
    let more = descend_rest-more low high quarter uppers lowers i c.index-uppers-i.result
    c.index-lowers-i.result c.index-lowers-i-in-loop-i.result (drop start values) len
    c.requires.lowers c.loop-i-test.true c.index-uppers-i.is c.index-lowers-i.is
    c.index-lowers-i-in-loop-i.is e_len enough in
    part-more (descend_rest low high quarter uppers lowers) size values c.descend_block.new.block i
    start len e_start e_len fits (c.descend_block.auto.block ∙ long)
    (more
    ∙ ap
    (λ b. b ++ descend_rest low high quarter uppers lowers (i + 1)
    (drop len (drop start values))) (sym c.descend_block.ensures)) ∙ c.loop-i.invariant

pub returns : goal.returns
returns g c =
    let low = g.B.Butterfly.lower in
    let high = g.B.Butterfly.upper in
    let quarter = c.args.quarter in
    let uppers = c.args.uppers.now in
    let lowers = c.args.lowers.now in
    let i = c.loop-i.i in
    let size = (quarter + quarter) + (quarter + quarter) in
    let end : i ≡ length uppers = omega (arith, c.loop-i-test.false, c.loop-i.auto.i-end) in
    sym
    (part-end (descend_rest low high quarter uppers lowers) size c.loop-i.values i
    (c.loop-i.auto.values ∙ c.requires.values ∙ ap (λ m. m * size) (sym end))
    (descend_rest-none low high quarter uppers lowers i c.requires.lowers end))
    ∙ c.loop-i.invariant
