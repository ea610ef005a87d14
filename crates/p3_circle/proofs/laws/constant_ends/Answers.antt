use Rattle.std.proofs.Common.{subst, sym}
use Rattle.circle_field.specs.Field.{RingLaws}
use Rattle.p3_circle.proofs.Constants.{same_of_constants}
use Rattle.p3_circle.proofs.laws.constant_ends.Goals as goal

pub returns : goal.returns
returns g c = λ k drawn over.
    same_of_constants k _ _ _ _ (subst RingLaws (sym over) g.EF.Operations.laws.ring)
