use Rattle.test_schemes.specs.QuadraticOperations.{embedded_of_nat}
use Rattle.test_schemes.proofs.quadratic.QuadraticField.from_u64.Goals as goal

pub returns : goal.returns
returns c = let e = embedded_of_nat c.args.int in cc
