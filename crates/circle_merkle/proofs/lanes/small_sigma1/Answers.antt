use Rattle.std.proofs.Common.{refl, arith}
use Rattle.circle_merkle.proofs.Shifts.{two_rotations}
use Rattle.circle_merkle.proofs.lanes.small_sigma1.Goals as goal

pub returns : goal.returns
returns c = two_rotations c.args.x 10 17 19 15 13 refl refl (omega arith)
