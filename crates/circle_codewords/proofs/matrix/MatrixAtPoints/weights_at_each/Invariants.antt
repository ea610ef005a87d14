use Rattle.std.proofs.Common.{take}
use Rattle.std.specs.List.{AllZip}
use Rattle.circle_codewords.specs.OfMatrices.{AreWeightsFor}
use Rattle.circle_codewords.proofs.matrix.MatrixAtPoints.weights_at_each.Given as goal

abbrev pub invariant-loop-point : goal.invariant-loop-point
invariant-loop-point g l =
    AllZip (AreWeightsFor l.self l.log_blowup) (take l.point-index l.self.points.now) l.lent.items
