use Rattle.circle_field.proofs.Inverses.{some_unless}
use Rattle.circle_domain.proofs.domain.inverse.Goals as goal

pub unwrap-requires : goal.unwrap-requires
unwrap-requires g c =
    some_unless c.try_inverse.result (λ none. c.requires (c.try_inverse.ensures.none.0 none))
