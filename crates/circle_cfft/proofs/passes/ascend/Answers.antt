use Rattle.std.proofs.Common.{◌≡◌, ◌<◌, ◌+◌, ◌*◌, ◌%◌, ◌^◌, sym, ◌∙◌, ap, arith, length}
use Rattle.std.proofs.lemmas.List.{map-id}
use Rattle.circle_domain.specs.Layers.{layer}
use Rattle.circle_cfft.specs.Parts.{factors_of_part}
use Rattle.circle_cfft.proofs.BlockSizes.{block-fits, upper-blocks, lower-blocks}
use Rattle.circle_cfft.proofs.BlockLayers.{ascend-step}
use Rattle.circle_cfft.proofs.passes.ascend.Goals as goal

pub half_of-requires-clause-fits : goal.half_of-requires-clause-fits
half_of-requires-clause-fits g c =
    let count = length c.args.values.now in
    let twiddles = c.args.twiddles.now in
    let l = length twiddles % 2 + 2 * c.loop-pair.pair in
    let here : l < length twiddles = omega (arith, c.loop-pair-test.true) in
    let small : count < 2 ^ 64 = omega arith in
    omega (
      arith,
      block-fits c.args.width count c.args.part twiddles c.requires.wide c.requires.some
          c.requires.layers l here,
      small,
    )

pub factors_of-uppers-requires-clause-layers : goal.factors_of-uppers-requires-clause-layers
factors_of-uppers-requires-clause-layers g c = c.requires.layers

pub factors_of-lowers-requires-clause-layers : goal.factors_of-lowers-requires-clause-layers
factors_of-lowers-requires-clause-layers g c = c.requires.layers

pub ascend_pair-requires-clause-values : goal.ascend_pair-requires-clause-values
ascend_pair-requires-clause-values g c =
    let width = c.args.width in
    let twiddles = c.args.twiddles.now in
    let l = length twiddles % 2 + 2 * (c.loop-pair.pair) in
    let here : l + 1 < length twiddles = omega (arith, c.loop-pair-test.true) in
    c.loop-pair.auto.values ∙ c.apply_first.auto.values
    ∙ upper-blocks width (length c.args.values.now) c.args.part twiddles c.requires.wide
    c.requires.layers l here
    ∙ ap
    (λ q. length (factors_of_part width (length c.args.values.now) c.args.part twiddles (l + 1))
    * ((q + q) + (q + q))) (sym c.half_of.ensures)
    ∙ ap
    (λ ts. length ts * ((c.half_of.result + c.half_of.result)
    + (c.half_of.result + c.half_of.result))) (sym c.factors_of-uppers.ensures)

pub ascend_pair-requires-clause-lowers : goal.ascend_pair-requires-clause-lowers
ascend_pair-requires-clause-lowers g c =
    let width = c.args.width in
    let twiddles = c.args.twiddles.now in
    let l = length twiddles % 2 + 2 * (c.loop-pair.pair) in
    let here : l + 1 < length twiddles = omega (arith, c.loop-pair-test.true) in
    ap length c.factors_of-lowers.ensures ∙ lower-blocks width (length c.args.values.now)
    c.args.part twiddles c.requires.wide c.requires.layers l here
    ∙ ap (λ ts. length ts + length ts) (sym c.factors_of-uppers.ensures)

pub loop-pair-preserved : goal.loop-pair-preserved
loop-pair-preserved g c =
    let width = c.args.width in
    let twiddles = c.args.twiddles.now in
    let odd = length twiddles % 2 in
    let l = odd + 2 * (c.loop-pair.pair) in
    let fs = factors_of_part width (length c.args.values.now) c.args.part twiddles in
    let more : odd + 2 * (c.loop-pair.pair + 1) ≡ l + 2 = omega arith in
    c.ascend_pair.ensures
    ∙ map-id
    (layer g.B.Butterfly.lower g.B.Butterfly.upper (c.half_of.result + c.half_of.result)
    c.factors_of-uppers.result.now
    (layer g.B.Butterfly.lower g.B.Butterfly.upper c.half_of.result
    c.factors_of-lowers.result.now c.loop-pair.values))
    ∙ ascend-step g.B.Butterfly.lower g.B.Butterfly.upper width fs l
    (odd + 2 * (c.loop-pair.pair + 1)) c.half_of.result
    c.factors_of-uppers.result.now c.factors_of-lowers.result.now c.loop-pair.values
    more c.half_of.ensures c.factors_of-uppers.ensures c.factors_of-lowers.ensures c.args.values.now
    c.loop-pair.invariant
