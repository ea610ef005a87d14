use Rattle.std.specs.Prelude.{refl}
use Rattle.circle_field.specs.CubicOperations.{same_residues}
use Rattle.circle_field.proofs.cubic.CubicField.ONE.Goals as goal

pub returns : goal.returns
returns c = same_residues _ _ refl refl refl
