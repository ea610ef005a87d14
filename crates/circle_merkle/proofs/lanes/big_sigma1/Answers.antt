use Rattle.std.proofs.Common.{refl, arith}
use Rattle.circle_merkle.proofs.Shifts.{three_rotations}
use Rattle.circle_merkle.proofs.lanes.big_sigma1.Goals as goal

pub returns : goal.returns
returns c = three_rotations c.args.x 6 11 25 26 21 7 refl refl refl (omega arith)
