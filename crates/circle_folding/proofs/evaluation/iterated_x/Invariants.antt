use Rattle.std.proofs.Common.{◌≡◌}
use Rattle.circle_point.specs.Basis.{iterated_x}
use Rattle.circle_folding.proofs.evaluation.iterated_x.Given as goal

abbrev pub invariant-loop : goal.invariant-loop
invariant-loop g l = l.iterated ≡ iterated_x g.F.Operations.ops l.counter l.fn.x
