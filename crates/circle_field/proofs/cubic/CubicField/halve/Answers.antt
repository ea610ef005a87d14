use Rattle.circle_field.specs.Mersenne31Laws.{laws as base_laws}
use Rattle.circle_field.specs.CubicOperations.{same_cubic, laws}
use Rattle.circle_field.proofs.Halves.{half_unique, doubled_half}
use Rattle.circle_field.proofs.cubic.CubicField.halve.Goals as goal

pub returns : goal.returns
returns c =
    half_unique laws c.args.self.now _ (same_cubic _ _
    (doubled_half base_laws c.args.self.now.c0 _ c.halve.ensures)
    (doubled_half base_laws c.args.self.now.c1 _ c.halve-2.ensures)
    (doubled_half base_laws c.args.self.now.c2 _ c.halve-3.ensures))
