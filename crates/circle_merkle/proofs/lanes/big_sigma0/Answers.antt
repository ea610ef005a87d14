use Rattle.std.proofs.Common.{refl, arith}
use Rattle.circle_merkle.proofs.Shifts.{three_rotations}
use Rattle.circle_merkle.proofs.lanes.big_sigma0.Goals as goal

pub returns : goal.returns
returns c = three_rotations c.args.x 2 13 22 30 19 10 refl refl refl (omega arith)
