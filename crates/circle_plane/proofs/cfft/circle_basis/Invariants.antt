use Rattle.std.proofs.Common.{◌≡◌, ◌-◌}
use Rattle.circle_point.specs.Basis.{iterated_x, basis_values}
use Rattle.circle_point.specs.Point.{coordinates}
use Rattle.circle_plane.proofs.cfft.circle_basis.Given as goal

abbrev pub invariant-loop : goal.invariant-loop
invariant-loop g l =
    let k = g.F.Operations.ops in
    let p = coordinates l.fn.point in
    record {
      made : l.basis.items ≡ basis_values k l.counter p;
      next : l.factor ≡ iterated_x k (l.counter - 1) p.x;
    }
