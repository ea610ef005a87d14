use Rattle.std.proofs.Common.{◌≡◌, ◌∙◌, arith}
use Rattle.std.proofs.lemmas.Grind.{common_steps}
use Rattle.circle_field.specs.Circle.{at}
use Rattle.circle_field.specs.CircleGroup.{plus-on_circle, same-on_circle, doubling}
use Rattle.circle_point.specs.Basis.{doubled_x}
use Rattle.circle_point.specs.Point.{coordinates}
use Rattle.circle_point.proofs.point.Point.double.Goals as goal

pub invariant_of-result : goal.invariant_of-result
invariant_of-result g c =
    let k = g.F.Operations.ops in
    let laws = g.F.Operations.laws.ring in
    let p = coordinates c.args.self in
    let on_circle = c.args.self.on_circle in
    let formula : at c.sub.result c.mul.result ≡ at (doubled_x k p.x) (k.mul (k.add p.x p.x) p.y) =
    grind (
      arith,
      common_steps,
      g.met.F.Field.add_law,
      g.met.F.Field.sub_law,
      g.met.F.Field.mul_law,
      g.met.F.Field.one_law,
    ) in
    record {
      on_circle =
          same-on_circle laws _ (formula ∙ doubling laws p on_circle)
          (plus-on_circle laws p p on_circle on_circle);
    }

pub returns : goal.returns
returns g c =
    let k = g.F.Operations.ops in
    let p = coordinates c.args.self in
    let formula : at c.sub.result c.mul.result ≡ at (doubled_x k p.x) (k.mul (k.add p.x p.x) p.y) =
    grind (
      arith,
      common_steps,
      g.met.F.Field.add_law,
      g.met.F.Field.sub_law,
      g.met.F.Field.mul_law,
      g.met.F.Field.one_law,
    ) in
    formula ∙ doubling g.F.Operations.laws.ring p c.args.self.on_circle
