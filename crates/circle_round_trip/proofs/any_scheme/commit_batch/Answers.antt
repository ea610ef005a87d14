use Rattle.std.proofs.Common.{◌∙◌, map, refl, ap}
use Rattle.circle_round_trip.proofs.any_scheme.commit_batch.Goals as goal

pub returns-clause-committed : goal.returns-clause-committed
returns-clause-committed g c = record {
  committed = c.in-Ok.ensures.committed;
  domains = c.in_ok-domains.ensures ∙ ap (map (λ m. m.0)) c.deref.ensures.value;
  points = refl;
}
