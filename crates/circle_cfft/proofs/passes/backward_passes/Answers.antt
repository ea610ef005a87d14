use Rattle.std.proofs.Common.{rules, arith, length, refl, inl, inr}
use Rattle.circle_cfft.specs.Butterflies.{total, scaled_difference}
use Rattle.circle_cfft.proofs.BlockWhole.{half-within, layers-of-above, layers-of-below}
use Rattle.circle_cfft.proofs.BlockWhole.{ascend-both}
use Rattle.circle_cfft.proofs.passes.backward_passes.Goals as goal

pub half_of-requires-clause-fits : goal.half_of-requires-clause-fits
half_of-requires-clause-fits g c =
    elim (half-within c.args.width (length c.args.entries.now) c.cached_layers-cached.result
    c.args.inverses.now c.requires.wide c.requires.some c.requires.layers
    c.cached_layers-cached.ensures)
    [ inl e ↦ omega (arith, e, c.ranges.width) | inr e ↦ search rules ]

pub ascend_parts-requires-clause-layers : goal.ascend_parts-requires-clause-layers
ascend_parts-requires-clause-layers g c =
    layers-of-below c.args.width (length c.args.entries.now) c.cached_layers-cached.result
    c.args.inverses.now c.requires.wide c.requires.layers c.cached_layers-cached.ensures
    _ c.split_at.result.1.now c.split_at.result.0.now refl c.split_at.ensures.back
    c.split_at.ensures.front (length c.args.entries.now) refl

pub ascend_scaled-requires-clause-layers : goal.ascend_scaled-requires-clause-layers
ascend_scaled-requires-clause-layers g c =
    layers-of-above c.args.width (length c.args.entries.now) c.cached_layers-cached.result
    c.args.inverses.now c.requires.wide c.requires.layers c.cached_layers-cached.ensures
    c.half_of.result c.split_at.result.1.now c.split_at.result.0.now c.half_of.ensures
    c.split_at.ensures.back c.split_at.ensures.front
    (length c.ascend_parts.new.entries) c.ascend_parts.auto.entries

pub returns : goal.returns
returns g c =
    let k = g.F.Operations.ops in
    ascend-both c.args.width (length c.args.entries.now) c.cached_layers-cached.result
    c.args.inverses.now c.requires.wide c.requires.layers c.cached_layers-cached.ensures
    (total k) (scaled_difference k) c.half_of.result c.split_at.result.1.now c.split_at.result.0.now
    (λ a. k.mul a c.args.scale) c.args.entries.now c.ascend_parts.new.entries
    c.ascend_scaled.new.entries
    c.half_of.ensures c.split_at.ensures.back c.split_at.ensures.front c.ascend_parts.ensures
    c.ascend_scaled.ensures
