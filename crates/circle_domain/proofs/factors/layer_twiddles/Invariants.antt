use Rattle.std.proofs.Common.{◌≡◌, map}
use Rattle.std.specs.List.{range_with_len}
use Rattle.circle_domain.specs.Domain.{log_size, shift_of}
use Rattle.circle_domain.specs.Layers.{layer_factors}
use Rattle.circle_domain.proofs.factors.layer_twiddles.Given as goal

abbrev pub invariant-loop-layer : goal.invariant-loop-layer
invariant-loop-layer g l =
    map (λ factors. factors.items) l.twiddles.items
    ≡ map (layer_factors g.F.Operations.ops g.F.ComplexExtendable.generators (log_size l.fn.domain)
    (shift_of l.fn.domain)) (range_with_len 0 l.layer)
