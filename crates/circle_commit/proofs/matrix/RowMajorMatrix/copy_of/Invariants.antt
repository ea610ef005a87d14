use Rattle.std.proofs.Common.{◌≡◌, []}
use Rattle.std.specs.List.{range_with_len, flat_map}
use Rattle.std.specs.Prelude.{slice_index_or}
use Rattle.circle_commit.proofs.matrix.RowMajorMatrix.copy_of.Given as goal

abbrev pub invariant-loop-r : goal.invariant-loop-r
invariant-loop-r g l =
    l.values.items ≡ flat_map (λ i. slice_index_or (g.M.Matrix.rows l.matrix) i [])
    (range_with_len 0 l.r)
