use Rattle.std.proofs.Common.{take, All}
use Rattle.circle_codewords.proofs.AtPoints.{IsClear}
use Rattle.circle_codewords.proofs.values.is_clear_of_each.Given as goal

abbrev pub invariant-loop-point : goal.invariant-loop-point
invariant-loop-point g l =
    All (IsClear g.F.Operations.ops g.EF.ExtensionField.embed g.F.ComplexExtendable.generators
    l.log_height) (take l.point-index l.points)
