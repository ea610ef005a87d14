use Rattle.std.proofs.Common.{refl}
use Rattle.circle_field.specs.Mersenne31Circle.{same_residues}
use Rattle.circle_field.proofs.mersenne31.Mersenne31.circle_generator.Goals as goal

pub returns : goal.returns
returns c = same_residues _ _ refl
