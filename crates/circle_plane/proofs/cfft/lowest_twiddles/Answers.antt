use Rattle.std.proofs.Common.{◌∙◌, ap, arith, length}
use Rattle.std.proofs.lemmas.List.{length-take-le}
use Rattle.circle_domain.specs.Domain.{log_size, shift_of}
use Rattle.circle_domain.specs.Layers.{layer_factors}
use Rattle.circle_domain.proofs.Twiddles.{made-count}
use Rattle.circle_cfft.specs.Passes.{factors_at}
use Rattle.circle_plane.proofs.AllLayers.{factors-taken}
use Rattle.circle_plane.proofs.cfft.lowest_twiddles.Goals as goal

pub returns : goal.returns
returns g c =
    let n = log_size c.args.domain in
    let f = layer_factors g.F.Operations.ops g.F.ComplexExtendable.generators n
    (shift_of c.args.domain) in
    let items = c.in_ok-twiddles.twiddles.items in
    let made = c.in_ok-twiddles.ensures in
    let all = made-count (λ w. w.items) f items n made in
    record {
      count = ap length c.truncate.ensures.items
          ∙ length-take-le c.args.layers items (omega (arith, all, c.requires.within));
      factors = λ l below. ap (λ ws. factors_at ws l) c.truncate.ensures.items
          ∙ factors-taken f items n c.args.layers l made c.requires.within below;
    }
