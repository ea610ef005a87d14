use Rattle.std.proofs.Common.{rules, ◌≤◌, arith, length, refl, inl, inr}
use Rattle.circle_cfft.proofs.BlockWhole.{half-within, whole-layers, layers-of-above}
use Rattle.circle_cfft.proofs.BlockWhole.{layers-of-below, descend-both}
use Rattle.circle_cfft.proofs.BlockSizes.{half-positive}
use Rattle.circle_cfft.specs.Butterflies.{plus_multiple, minus_multiple}
use Rattle.circle_cfft.proofs.passes.forward_passes.Goals as goal

pub half_of-requires-clause-fits : goal.half_of-requires-clause-fits
half_of-requires-clause-fits g c =
    elim (half-within c.args.width (length c.args.entries.now) c.cached_layers-cached.result
    c.args.twiddles.now c.requires.wide c.requires.some c.requires.layers
    c.cached_layers-cached.ensures)
    [ inl e ↦ omega (arith, e, c.ranges.width) | inr e ↦ search rules ]

pub descend-requires-clause-layers : goal.descend-requires-clause-layers
descend-requires-clause-layers g c =
    let width = c.args.width in
    let count = length c.args.entries.now in
    let m = c.cached_layers-cached.result in
    let wide : 1 ≤ c.half_of.result =
    omega (arith, c.half_of.ensures, half-positive m width c.requires.wide) in
    whole-layers c.half_of.result count c.split_at.result.1.now wide
    (layers-of-above width count m c.args.twiddles.now c.requires.wide c.requires.layers
    c.cached_layers-cached.ensures
    c.half_of.result c.split_at.result.1.now c.split_at.result.0.now c.half_of.ensures
    c.split_at.ensures.back c.split_at.ensures.front count refl)

pub descend_parts-requires-clause-layers : goal.descend_parts-requires-clause-layers
descend_parts-requires-clause-layers g c =
    layers-of-below c.args.width (length c.args.entries.now) c.cached_layers-cached.result
    c.args.twiddles.now c.requires.wide c.requires.layers c.cached_layers-cached.ensures
    c.half_of.result c.split_at.result.1.now c.split_at.result.0.now c.half_of.ensures
    c.split_at.ensures.back c.split_at.ensures.front
    (length c.descend.new.values) c.descend.auto.values

pub returns : goal.returns
returns g c =
    let k = g.F.Operations.ops in
    descend-both c.args.width (length c.args.entries.now) c.cached_layers-cached.result
    c.args.twiddles.now c.requires.wide c.requires.layers c.cached_layers-cached.ensures
    (plus_multiple k) (minus_multiple k) c.half_of.result c.split_at.result.1.now
    c.split_at.result.0.now c.args.entries.now c.descend.new.values c.descend_parts.new.entries
    c.half_of.ensures c.split_at.ensures.back c.split_at.ensures.front c.descend.ensures
    c.descend_parts.ensures
