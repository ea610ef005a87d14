use Rattle.std.proofs.Common.{refl}
use Rattle.test_quotient.specs.Mersenne7Circle.{same_residues}
use Rattle.test_quotient.proofs.mersenne7.Mersenne7.circle_generator.Goals as goal

pub returns : goal.returns
returns c = same_residues _ _ refl
