use Rattle.std.specs.Prelude.{refl}
use Rattle.test_schemes.specs.QuadraticOperations.{same_residues}
use Rattle.test_schemes.proofs.quadratic.QuadraticField.ONE.Goals as goal

pub returns : goal.returns
returns c = same_residues _ _ refl refl
