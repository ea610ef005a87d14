use Rattle.std.proofs.Common.{◌≡◌, ◌++◌, ◌≤◌, map, take}
use Rattle.std.specs.Prelude.{vec_len}
use Rattle.circle_field.specs.Circle.{plus}
use Rattle.circle_point.specs.Point.{coordinates}
use Rattle.circle_domain.proofs.ordering.append_moved.Given as goal

abbrev pub invariant-loop-i : goal.invariant-loop-i
invariant-loop-i g l =
    let before = map coordinates l.fn.points.items in
    record {
      moved : map coordinates l.points.items ≡ before
          ++ map (λ p. plus g.F.Operations.ops p (coordinates l.step)) (take l.i before);
      long : vec_len l.fn.points ≤ vec_len l.points;
    }
