use Rattle.circle_field.proofs.Inverses.{some_unless}
use Rattle.circle_domain.proofs.domain.finite_point.Goals as goal

pub unwrap-requires : goal.unwrap-requires
unwrap-requires g c =
    some_unless c.from_projective_line.result
    (λ none. c.requires (c.from_projective_line.ensures.none.0 none))
