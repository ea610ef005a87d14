use Rattle.std.proofs.Common.{◌≡◌, ◌∙◌, ap, arith}
use Rattle.std.proofs.lemmas.Grind.{common_steps}
use Rattle.circle_field.specs.Circle.{at, plus, opposite}
use Rattle.circle_point.specs.Point.{coordinates}
use Rattle.circle_field.specs.CircleGroup.{opposite-on_circle, same-on_circle, plus-opposite}
use Rattle.circle_point.proofs.point.PointNeg.neg.Goals as goal

pub invariant_of-result : goal.invariant_of-result
invariant_of-result g c =
    let laws = g.F.Operations.laws.ring in
    let e : at c.args.self.x c.neg.result ≡ opposite g.F.Operations.ops (coordinates c.args.self) =
    grind (arith, common_steps, g.met.F.Field.neg_law) in
    record {
      on_circle =
          same-on_circle laws _ e
          (opposite-on_circle laws (coordinates c.args.self) c.args.self.on_circle);
    }

pub returns-clause-cancels : goal.returns-clause-cancels
returns-clause-cancels g c =
    let k = g.F.Operations.ops in
    let p = coordinates c.args.self in
    let e : at c.args.self.x c.neg.result ≡ opposite k p =
    grind (arith, common_steps, g.met.F.Field.neg_law) in
    ap (plus k p) e ∙ plus-opposite g.F.Operations.laws.ring p c.args.self.on_circle
