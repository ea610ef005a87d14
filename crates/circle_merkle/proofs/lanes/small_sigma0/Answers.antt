use Rattle.std.proofs.Common.{refl, arith}
use Rattle.circle_merkle.proofs.Shifts.{two_rotations}
use Rattle.circle_merkle.proofs.lanes.small_sigma0.Goals as goal

pub returns : goal.returns
returns c = two_rotations c.args.x 3 7 18 25 14 refl refl (omega arith)
