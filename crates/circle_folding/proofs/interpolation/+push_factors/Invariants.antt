use Rattle.std.proofs.Common.{length}
use Rattle.circle_folding.proofs.interpolation.+push_factors.Given as goal

abbrev pub decreases-push_factors : goal.decreases-push_factors
decreases-push_factors g l = length l.xs.now
