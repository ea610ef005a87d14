use Rattle.std.proofs.Common.{◌≡◌, [], map}
use Rattle.std.specs.List.{range_with_len, flat_map}
use Rattle.std.specs.Prelude.{slice_index_or}
use Rattle.circle_quotient.proofs.chunks.coefficient_rows.Given as goal

abbrev pub invariant-loop-element : goal.invariant-loop-element
invariant-loop-element g l =
    l.coefficients.items
    ≡ flat_map (λ i. slice_index_or (map g.EF.ExtensionField.coefficients l.elements) i [])
    (range_with_len 0 l.element-index)
