use Rattle.std.proofs.Common.{◌≡◌, map}
use Rattle.std.specs.List.{range_with_len}
use Rattle.circle_commit.proofs.ColumnSums.{partial}
use Rattle.circle_commit.proofs.matrix.FieldMatrix.columnwise_dot_products.Given as goal

abbrev pub invariant-loop-i : goal.invariant-loop-i
invariant-loop-i g l =
    map (λ sums. sums.items) l.sums.items
    ≡ map
    (λ ws. map (partial g.EF.Operations.ops g.EF.ExtensionField.embed g.EF.Operations.laws.ring
    g.F.Operations.ops.zero ws.now (g.Self.Matrix.rows l.self) l.i)
    (range_with_len 0 (g.Self.MatrixShape.width l.self))) l.weights
