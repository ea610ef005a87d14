use Rattle.std.proofs.Common.{take}
use Rattle.circle_codewords.specs.Values.{AreOffStandard}
use Rattle.circle_codewords.proofs.values.are_off_domain.Given as goal

abbrev pub invariant-loop-point : goal.invariant-loop-point
invariant-loop-point g l =
    AreOffStandard g.F.Operations.ops g.F.ComplexExtendable.generators g.EF.Operations.ops
    g.EF.ExtensionField.embed l.log_height (take l.point-index l.points)
