use Rattle.std.proofs.Common.{◌≡◌}
use Rattle.circle_domain.specs.Layers.{copies}
use Rattle.circle_plane.proofs.cfft.repeat.Given as goal

abbrev pub invariant-loop : goal.invariant-loop
invariant-loop g l = l.repeated.items ≡ copies l.counter l.entries.items
