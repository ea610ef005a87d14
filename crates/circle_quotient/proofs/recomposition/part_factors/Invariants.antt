use Rattle.std.proofs.Common.{◌≡◌, map}
use Rattle.std.specs.List.{range_with_len}
use Rattle.circle_quotient.specs.Recomposition.{part_factor}
use Rattle.circle_quotient.proofs.recomposition.part_factors.Given as goal

abbrev pub invariant-loop-j : goal.invariant-loop-j
invariant-loop-j g l = l.factors.items
    ≡ map (λ j. part_factor g.EF.Operations.ops (map g.EF.ExtensionField.embed l.values) j l.at)
    (range_with_len 0 l.j)
