use Rattle.std.proofs.Common.{◌≡◌, map, take}
use Rattle.circle_round_trip.proofs.any_scheme.domains_of.Given as goal

-- the domains so far are there
abbrev pub invariant-loop-given : goal.invariant-loop-given
invariant-loop-given g l = l.domains.items ≡ map (λ m. m.0) (take l.given-index l.batch)
