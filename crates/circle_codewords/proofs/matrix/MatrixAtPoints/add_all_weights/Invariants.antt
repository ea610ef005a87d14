use Rattle.std.proofs.Common.{take, All}
use Rattle.std.specs.List.{Any}
use Rattle.circle_codewords.specs.OfMatrices.{IsFor}
use Rattle.circle_codewords.proofs.matrix.MatrixAtPoints.add_all_weights.Given as goal

abbrev pub invariant-loop-point : goal.invariant-loop-point
invariant-loop-point g l =
    All (λ p. Any (IsFor l.log_blowup l.self.log_height p.coordinate) l.all.items)
    (take l.point-index l.self.points.now)
