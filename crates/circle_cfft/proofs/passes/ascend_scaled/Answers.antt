use Rattle.std.proofs.Common.{rules, ◌≡◌, ◌≤◌, ◌<◌, ◌+◌, ◌-◌, ◌*◌, ◌^◌, sym, ◌∙◌, ap, arith, length}
use Rattle.std.proofs.Common.{map, take}
use Rattle.circle_cfft.specs.Passes.{ascending, factors_at}
use Rattle.circle_cfft.specs.Parts.{factors_of_part}
use Rattle.circle_cfft.proofs.BlockSizes.{block-fits, upper-blocks, lower-blocks}
use Rattle.circle_cfft.proofs.BlockLayers.{ascending-same, ascend-step}
use Rattle.circle_cfft.proofs.BlockWhole.{whole-layers, whole-factors, layers-below, lowest-factors}
use Rattle.circle_cfft.proofs.passes.ascend_scaled.Goals as goal

pub ascend-requires-clause-layers : goal.ascend-requires-clause-layers
ascend-requires-clause-layers g c =
    whole-layers c.args.width (length c.args.entries.now) c.args.twiddles.now c.requires.wide
    c.requires.layers

pub ascend-requires-2-clause-layers : goal.ascend-requires-2-clause-layers
ascend-requires-2-clause-layers g c =
    let below = length c.args.twiddles.now - 2 in
    let within : below ≤ length c.args.twiddles.now = omega arith in
    whole-layers c.args.width (length c.args.entries.now) (take below c.args.twiddles.now)
    c.requires.wide
    (layers-below c.args.width (length c.args.entries.now) below c.args.twiddles.now c.requires.wide
    c.requires.layers within)

pub factors_of-uppers-requires-clause-layers : goal.factors_of-uppers-requires-clause-layers
factors_of-uppers-requires-clause-layers g c =
    whole-layers c.args.width (length c.args.entries.now) c.args.twiddles.now c.requires.wide
    c.requires.layers

pub factors_of-lowers-requires-clause-layers : goal.factors_of-lowers-requires-clause-layers
factors_of-lowers-requires-clause-layers g c =
    whole-layers c.args.width (length c.args.entries.now) c.args.twiddles.now c.requires.wide
    c.requires.layers

pub half_of-requires-clause-fits : goal.half_of-requires-clause-fits
half_of-requires-clause-fits g c =
    let width = c.args.width in
    let twiddles = c.args.twiddles.now in
    let count = length c.args.entries.now in
    let below = length twiddles - 2 in
    let here : below < length twiddles = omega (arith, c.if-twiddles-lt2.false) in
    let fit : 2 ^ below * width ≤ count =
    omega (
      arith,
      block-fits width count 0 twiddles c.requires.wide c.requires.some
          (whole-layers width count twiddles c.requires.wide c.requires.layers) below here,
    ) in
    search rules

pub ascend_pair-requires-clause-values : goal.ascend_pair-requires-clause-values
ascend_pair-requires-clause-values g c =
    let width = c.args.width in
    let twiddles = c.args.twiddles.now in
    let count = length c.args.entries.now in
    let below = length twiddles - 2 in
    let here : below + 1 < length twiddles = omega (arith, c.if-twiddles-lt2.false) in
    c.ascend-2.auto.values ∙ upper-blocks width count 0 twiddles c.requires.wide
    (whole-layers width count twiddles c.requires.wide c.requires.layers) below here
    ∙ ap (λ q. length (factors_of_part width count 0 twiddles (below + 1)) * ((q + q) + (q + q)))
    (sym c.half_of.ensures)
    ∙ ap
    (λ ts. length ts * ((c.half_of.result + c.half_of.result)
    + (c.half_of.result + c.half_of.result))) (sym c.factors_of-uppers.ensures)

pub ascend_pair-requires-clause-lowers : goal.ascend_pair-requires-clause-lowers
ascend_pair-requires-clause-lowers g c =
    let width = c.args.width in
    let twiddles = c.args.twiddles.now in
    let count = length c.args.entries.now in
    let below = length twiddles - 2 in
    let here : below + 1 < length twiddles = omega (arith, c.if-twiddles-lt2.false) in
    ap length c.factors_of-lowers.ensures ∙ lower-blocks width count 0 twiddles c.requires.wide
    (whole-layers width count twiddles c.requires.wide c.requires.layers) below here
    ∙ ap (λ ts. length ts + length ts) (sym c.factors_of-uppers.ensures)

pub returns : goal.returns
returns g c =
    let low = g.B.Butterfly.lower in
    let high = g.B.Butterfly.upper in
    let width = c.args.width in
    let twiddles = c.args.twiddles.now in
    let xs = c.args.entries.now in
    let count = length xs in
    let n = length twiddles in
    let below = n - 2 in
    let within : below ≤ n = omega arith in
    let more : n ≡ below + 2 = omega (arith, c.if-twiddles-lt2.false) in
    let fs = factors_of_part width count 0 twiddles in
    let scaled = map (λ (a : g.row.F.Denot). g.F.Operations.ops.mul a c.args.scale) in
    let so_far : c.ascend-2.new.values ≡ ascending low high width fs below xs =
    c.ascend-2.ensures ∙ lowest-factors width count below twiddles c.requires.wide c.requires.layers
    within low high xs in
    c.ascend_pair.ensures
    ∙ ap scaled
    (ascend-step low high width fs below n c.half_of.result c.factors_of-uppers.result.now
    c.factors_of-lowers.result.now c.ascend-2.new.values
    more c.half_of.ensures c.factors_of-uppers.ensures c.factors_of-lowers.ensures xs so_far
    ∙ ascending-same low high width fs (factors_at twiddles) n
    (whole-factors width count twiddles c.requires.wide c.requires.layers) xs)
