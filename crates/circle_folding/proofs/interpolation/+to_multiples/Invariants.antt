use Rattle.std.proofs.Common.{length}
use Rattle.circle_folding.proofs.interpolation.+to_multiples.Given as goal

abbrev pub decreases-to_multiples : goal.decreases-to_multiples
decreases-to_multiples g l = length l.values.now
