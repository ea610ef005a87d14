use Rattle.std.proofs.Common.{take}
use Rattle.std.specs.Prelude.{All}
use Rattle.circle_verifier.proofs.Points.{Claimed}
use Rattle.circle_verifier.proofs.run.OpenedRun.check_points.Given as goal

-- the matrices of the batches so far are claimed
abbrev pub invariant-loop-batch : goal.invariant-loop-batch
invariant-loop-batch g l = All (λ b. All Claimed b.matrices.items) (take l.batch l.self.claims.now)
