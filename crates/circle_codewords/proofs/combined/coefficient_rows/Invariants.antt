use Rattle.std.proofs.Common.{◌≡◌, [], map}
use Rattle.std.specs.List.{range_with_len, flat_map}
use Rattle.std.specs.Prelude.{slice_index_or}
use Rattle.circle_codewords.proofs.combined.coefficient_rows.Given as goal

abbrev pub invariant-loop-entry : goal.invariant-loop-entry
invariant-loop-entry g l =
    l.values.items
    ≡ flat_map (λ i. slice_index_or (map g.EF.ExtensionField.coefficients l.word) i [])
    (range_with_len 0 l.entry-index)
