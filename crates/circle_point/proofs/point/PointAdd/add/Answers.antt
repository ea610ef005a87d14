use Rattle.std.proofs.Common.{◌≡◌, ◌∙◌, ap, arith}
use Rattle.std.proofs.lemmas.Grind.{common_steps}
use Rattle.circle_field.specs.Circle.{Coordinates, lifted, at, plus}
use Rattle.circle_field.specs.CircleGroup.{lifted-on_circle, plus-on_circle, same-on_circle}
use Rattle.circle_field.specs.CircleGroup.{plus_assoc, plus_comm, plus-origin}
use Rattle.circle_point.specs.Point.{coordinates}
use Rattle.circle_point.proofs.point.PointAdd.add.Goals as goal

pub invariant_of-result : goal.invariant_of-result
invariant_of-result g c =
    let laws = g.EF.Operations.laws.ring in
    let p = coordinates c.args.self in
    let q = lifted g.EF.ExtensionField.embed (coordinates c.args.rhs) in
    let e : at c.sub.result c.add.result ≡ plus g.EF.Operations.ops p q =
    grind (
      arith,
      common_steps,
      g.met.EF.Field.add_law,
      g.met.EF.Field.sub_law,
      g.met.EF.Field.mul_law,
    ) in
    record {
      on_circle =
          same-on_circle laws _ e
          (plus-on_circle laws p q c.args.self.on_circle
          (lifted-on_circle g.met.EF.ExtensionField.embedding (coordinates c.args.rhs)
          c.args.rhs.on_circle));
    }

pub returns-clause-sum : goal.returns-clause-sum
returns-clause-sum g c =
    grind (
      arith,
      common_steps,
      g.met.EF.Field.add_law,
      g.met.EF.Field.sub_law,
      g.met.EF.Field.mul_law,
    )

pub returns-clause-commutes : goal.returns-clause-commutes
returns-clause-commutes g c =
    let q = lifted g.EF.ExtensionField.embed (coordinates c.args.rhs) in
    returns-clause-sum g c ∙ plus_comm g.EF.Operations.laws.ring (coordinates c.args.self) q

pub returns-clause-associates : goal.returns-clause-associates
returns-clause-associates g c =
    let k = g.EF.Operations.ops in
    let p = coordinates c.args.self in
    let q = lifted g.EF.ExtensionField.embed (coordinates c.args.rhs) in
    let e : at c.sub.result c.add.result ≡ plus k p q =
    grind (
      arith,
      common_steps,
      g.met.EF.Field.add_law,
      g.met.EF.Field.sub_law,
      g.met.EF.Field.mul_law,
    ) in
    λ r. ap (λ (s : Coordinates g.row.EF.Denot). plus k s r) e
    ∙ plus_assoc g.EF.Operations.laws.ring p q r

pub returns-clause-neutral : goal.returns-clause-neutral
returns-clause-neutral g c = plus-origin g.EF.Operations.laws.ring (coordinates c.args.self)
