use Rattle.std.proofs.Common.{◌≡◌, map}
use Rattle.std.specs.List.{range_with_len}
use Rattle.circle_commit.proofs.ColumnSums.{partial}
use Rattle.circle_commit.proofs.matrix.FieldMatrix.columnwise_dot_product.Given as goal

abbrev pub invariant-loop-i : goal.invariant-loop-i
invariant-loop-i g l =
    l.sums.items
    ≡ map (partial g.EF.Operations.ops g.EF.ExtensionField.embed g.EF.Operations.laws.ring
    g.F.Operations.ops.zero l.weights (g.Self.Matrix.rows l.self) l.i)
    (range_with_len 0 (g.Self.MatrixShape.width l.self))
