use Rattle.std.proofs.Common.{◌≡◌, map}
use Rattle.std.specs.List.{range_with_len}
use Rattle.circle_domain.specs.Domain.{log_size, shift_of}
use Rattle.circle_domain.specs.Layers.{layer_factors}
use Rattle.circle_cfft.proofs.twiddles.inverses_by_layer.Given as goal

abbrev pub invariant-loop-factors : goal.invariant-loop-factors
invariant-loop-factors g l =
    let f = layer_factors g.F.Operations.ops g.F.ComplexExtendable.generators (log_size l.fn.domain)
    (shift_of l.fn.domain) in
    map (λ factors. factors.items) l.inverses.items
    ≡ map (λ m. map g.F.Operations.ops.inv (f m)) (range_with_len 0 l.factors-index)
