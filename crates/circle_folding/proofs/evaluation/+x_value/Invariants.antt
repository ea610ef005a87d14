use Rattle.std.proofs.Common.{length}
use Rattle.circle_folding.proofs.evaluation.+x_value.Given as goal

abbrev pub decreases-x_value : goal.decreases-x_value
decreases-x_value g l = length l.coefficients.now
