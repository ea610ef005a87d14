use Rattle.std.proofs.Common.{refl}
use Rattle.circle_vectors.proofs.committing.domains_and_limits.Goals as goal

pub
    natural_domain_for_degree-requires-2-clause-power :
    goal.natural_domain_for_degree-requires-2-clause-power
natural_domain_for_degree-requires-2-clause-power g c = (3, refl)
