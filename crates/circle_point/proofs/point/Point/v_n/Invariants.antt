use Rattle.std.proofs.Common.{◌≡◌, ◌-◌}
use Rattle.circle_point.specs.Basis.{iterated_x}
use Rattle.circle_point.proofs.point.Point.v_n.Given as goal

abbrev pub invariant-loop : goal.invariant-loop
invariant-loop g l = l.x ≡ iterated_x g.F.Operations.ops (l.counter - 1) l.fn.self.x
