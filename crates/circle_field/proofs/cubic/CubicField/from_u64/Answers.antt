use Rattle.circle_field.specs.CubicOperations.{embedded_of_nat}
use Rattle.circle_field.proofs.cubic.CubicField.from_u64.Goals as goal

pub returns : goal.returns
returns c = let e = embedded_of_nat c.args.int in cc
