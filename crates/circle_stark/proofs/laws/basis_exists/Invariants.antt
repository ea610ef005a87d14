use Rattle.std.proofs.Common.{List}
use Rattle.circle_stark.proofs.BasisElements.{AreFirst}
use Rattle.circle_stark.proofs.laws.basis_exists.Given as goal

abbrev pub invariant-loop-i : goal.invariant-loop-i
invariant-loop-i g l =
    (elements : List g.row.EF.Denot)
    × AreFirst g.F.Operations.ops g.EF.ExtensionField.coefficients g.EF.ExtensionField.DEGREE l.i
    elements
