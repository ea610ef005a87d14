use Rattle.circle_field.proofs.Inverses.{some_unless}
use Rattle.circle_domain.specs.Domain.{shift_of}
use Rattle.circle_domain.proofs.Walking.{half_turn-by_x}
use Rattle.circle_domain.proofs.domain.CircleDomainPolynomialSpace.first_point.Goals as goal

pub unwrap-requires : goal.unwrap-requires
unwrap-requires g c = some_unless c.to_projective_line.result (λ none.
    c.requires
    (half_turn-by_x g.F.Operations.laws g.F.PartialEq.eq g.met.F.Field.eq_law
    (shift_of c.args.self.now) c.args.self.now.shift.on_circle
    (c.to_projective_line.ensures.none.0 none)))
