use Rattle.std.proofs.Common.{◌≡◌, ◌<◌, ◌+◌, ◌-◌, ◌*◌, ◌%◌, ◌^◌, sym, ◌∙◌, ap, arith, length}
use Rattle.circle_cfft.specs.Parts.{factors_of_part}
use Rattle.circle_cfft.proofs.BlockSizes.{block-fits, upper-blocks, lower-blocks}
use Rattle.circle_cfft.proofs.BlockLayers.{descend-step}
use Rattle.circle_cfft.proofs.passes.descend.Goals as goal

pub half_of-requires-clause-fits : goal.half_of-requires-clause-fits
half_of-requires-clause-fits g c =
    let count = length c.args.values.now in
    let twiddles = c.args.twiddles.now in
    let l = length twiddles % 2 + 2 * (c.loop-pair.pair - 1) in
    let here : l < length twiddles = omega (arith, c.loop-pair-test.true, c.loop-pair.auto.pair) in
    let small : count < 2 ^ 64 = omega arith in
    omega (
      arith,
      block-fits c.args.width count c.args.part twiddles c.requires.wide c.requires.some
          c.requires.layers l here,
      small,
    )

pub factors_of-uppers-requires-clause-layers : goal.factors_of-uppers-requires-clause-layers
factors_of-uppers-requires-clause-layers g c = c.requires.layers

pub factors_of-lowers-requires-clause-layers : goal.factors_of-lowers-requires-clause-layers
factors_of-lowers-requires-clause-layers g c = c.requires.layers

pub descend_pair-requires-clause-values : goal.descend_pair-requires-clause-values
descend_pair-requires-clause-values g c =
    let width = c.args.width in
    let twiddles = c.args.twiddles.now in
    let l = length twiddles % 2 + 2 * (c.loop-pair.pair - 1) in
    let here : l + 1 < length twiddles =
    omega (arith, c.loop-pair-test.true, c.loop-pair.auto.pair) in
    c.loop-pair.auto.values ∙ upper-blocks width (length c.args.values.now) c.args.part twiddles
    c.requires.wide c.requires.layers l here
    ∙ ap
    (λ q. length (factors_of_part width (length c.args.values.now) c.args.part twiddles (l + 1))
    * ((q + q) + (q + q))) (sym c.half_of.ensures)
    ∙ ap
    (λ ts. length ts * ((c.half_of.result + c.half_of.result)
    + (c.half_of.result + c.half_of.result))) (sym c.factors_of-uppers.ensures)

pub descend_pair-requires-clause-lowers : goal.descend_pair-requires-clause-lowers
descend_pair-requires-clause-lowers g c =
    let width = c.args.width in
    let twiddles = c.args.twiddles.now in
    let l = length twiddles % 2 + 2 * (c.loop-pair.pair - 1) in
    let here : l + 1 < length twiddles =
    omega (arith, c.loop-pair-test.true, c.loop-pair.auto.pair) in
    ap length c.factors_of-lowers.ensures ∙ lower-blocks width (length c.args.values.now)
    c.args.part twiddles c.requires.wide c.requires.layers l here
    ∙ ap (λ ts. length ts + length ts) (sym c.factors_of-uppers.ensures)

pub loop-pair-preserved : goal.loop-pair-preserved
loop-pair-preserved g c =
    let width = c.args.width in
    let twiddles = c.args.twiddles.now in
    let odd = length twiddles % 2 in
    let l = odd + 2 * (c.loop-pair.pair - 1) in
    let k = odd + 2 * c.loop-pair.pair in
    let more : k ≡ l + 2 = omega (arith, c.loop-pair-test.true) in
    descend-step g.B.Butterfly.lower g.B.Butterfly.upper width
    (factors_of_part width (length c.args.values.now) c.args.part twiddles) l k c.half_of.result
    c.factors_of-uppers.result.now c.factors_of-lowers.result.now c.loop-pair.values
    c.descend_pair.new.values
    more c.half_of.ensures c.factors_of-uppers.ensures c.factors_of-lowers.ensures
    c.descend_pair.ensures ∙ c.loop-pair.invariant
