use Rattle.std.proofs.Common.{◌≡◌, ◌<◌, ◌+◌, ◌*◌, ◌/◌, ◌^◌, sym, ◌∙◌, ap, arith, length}
use Rattle.circle_cfft.specs.Passes.{factors_at}
use Rattle.circle_cfft.specs.Parts.{part_of}
use Rattle.circle_cfft.proofs.BlockSizes.{block-fits, blocks-fit, factors-read}
use Rattle.circle_cfft.proofs.passes.factors_of.Goals as goal

pub half_of-requires-clause-fits : goal.half_of-requires-clause-fits
half_of-requires-clause-fits g c =
    let small : c.args.count < 2 ^ 64 = omega arith in
    omega (
      arith,
      block-fits c.args.width c.args.count c.args.part c.args.twiddles.now c.requires.wide
          c.requires.some c.requires.layers c.args.layer c.requires.within,
      small,
    )

pub overflow_mul-half_of : goal.overflow_mul-half_of
overflow_mul-half_of g c =
    let small : c.args.count < 2 ^ 64 = omega arith in
    omega (
      arith,
      c.half_of.ensures,
      block-fits c.args.width c.args.count c.args.part c.args.twiddles.now c.requires.wide
          c.requires.some c.requires.layers c.args.layer c.requires.within,
      small,
    )

pub nth_part-requires : goal.nth_part-requires
nth_part-requires g c =
    let l = c.args.layer in
    let width = c.args.width in
    let count = c.args.count in
    let part = c.args.part in
    let twiddles = c.args.twiddles.now in
    let block = 2 ^ l * width + 2 ^ l * width in
    let size : 2 * c.half_of.result ≡ block = omega (arith, c.half_of.ensures) in
    let listed : c.deref.result.now ≡ factors_at twiddles l = c.deref.ensures.value
    ∙ sym (factors-read twiddles l c.index-twiddles-layer.result c.requires.within
    c.index-twiddles-layer.is) in
    let same : part * (count / (2 * c.half_of.result)) + count / (2 * c.half_of.result) ≡ part *
    (count / block) + count / block = ap (λ n. part * (count / n) + count / n) size in
    omega (
      arith,
      same,
      ap length listed,
      blocks-fit width count part twiddles c.requires.wide c.requires.some c.requires.layers l
          c.requires.within,
    )

pub returns : goal.returns
returns g c =
    let l = c.args.layer in
    let width = c.args.width in
    let count = c.args.count in
    let part = c.args.part in
    let twiddles = c.args.twiddles.now in
    let block = 2 ^ l * width + 2 ^ l * width in
    let size : 2 * c.half_of.result ≡ block = omega (arith, c.half_of.ensures) in
    let listed : c.deref.result.now ≡ factors_at twiddles l = c.deref.ensures.value
    ∙ sym (factors-read twiddles l c.index-twiddles-layer.result c.requires.within
    c.index-twiddles-layer.is) in
    c.nth_part.ensures ∙ ap (λ n. part_of part (count / n) c.deref.result.now) size
    ∙ ap (part_of part (count / block)) listed
