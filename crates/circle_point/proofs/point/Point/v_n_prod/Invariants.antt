use Rattle.std.proofs.Common.{◌≡◌, ◌-◌, ◌≤◌}
use Rattle.circle_point.specs.Basis.{iterated_x, vanishing_product}
use Rattle.circle_point.specs.Point.{coordinates}
use Rattle.circle_point.proofs.point.Point.v_n_prod.Given as goal

abbrev pub invariant-loop : goal.invariant-loop
invariant-loop g l = record {
  doubled : l.factor ≡ iterated_x g.F.Operations.ops (l.counter - 1) l.fn.self.x;
  multiplied : l.product ≡ vanishing_product g.F.Operations.ops (l.counter - 1)
      (coordinates l.fn.self);
  in_range : l.counter - 1 ≤ l.log_n - 1;
}
