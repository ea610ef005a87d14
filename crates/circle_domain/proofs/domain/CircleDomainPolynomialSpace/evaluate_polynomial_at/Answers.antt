use Rattle.std.proofs.Common.{subst, sym}
use Rattle.circle_domain.specs.Domain.{log_size}
use Rattle.circle_domain.specs.Order.{IsGenuine}
use Rattle.circle_domain.proofs.StandardDomain.{standard-genuine}
use Rattle.circle_domain.proofs.domain.CircleDomainPolynomialSpace.evaluate_polynomial_at.Goals as goal

pub value_off_domain-requires-clause-genuine : goal.value_off_domain-requires-clause-genuine
value_off_domain-requires-clause-genuine g c =
    subst (IsGenuine g.F.Operations.ops (log_size c.args.self.now)) (sym c.requires.standard.1)
    (standard-genuine g.F.Operations.laws g.met.F.ComplexExtendable.generators_law
    (log_size c.args.self.now) c.requires.positive c.requires.standard.0)
