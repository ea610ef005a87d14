use Rattle.std.proofs.Common.{◌≡◌, ◌∙◌, ap, arith}
use Rattle.std.proofs.lemmas.Grind.{common_steps}
use Rattle.circle_field.specs.Circle.{Coordinates, lifted, at, plus, opposite}
use Rattle.circle_field.specs.CircleGroup.{lifted-on_circle, plus-on_circle, opposite-on_circle}
use Rattle.circle_field.specs.CircleGroup.{same-on_circle, difference, difference-plus}
use Rattle.circle_point.specs.Point.{coordinates}
use Rattle.circle_point.proofs.point.PointSub.sub.Goals as goal

pub invariant_of-result : goal.invariant_of-result
invariant_of-result g c =
    let k = g.EF.Operations.ops in
    let laws = g.EF.Operations.laws.ring in
    let p = coordinates c.args.self in
    let q = lifted g.EF.ExtensionField.embed (coordinates c.args.rhs) in
    let formula : at c.add.result c.sub.result ≡ at (k.add (k.mul p.x q.x) (k.mul p.y q.y))
    (k.add (k.mul p.y q.x) (k.neg (k.mul p.x q.y))) =
    grind (
      arith,
      common_steps,
      g.met.EF.Field.add_law,
      g.met.EF.Field.sub_law,
      g.met.EF.Field.mul_law,
    ) in
    record {
      on_circle = same-on_circle laws _ (formula ∙ difference laws p q)
          (plus-on_circle laws p (opposite k q) c.args.self.on_circle
          (opposite-on_circle laws q
          (lifted-on_circle g.met.EF.ExtensionField.embedding (coordinates c.args.rhs)
          c.args.rhs.on_circle)));
    }

pub returns-clause-difference : goal.returns-clause-difference
returns-clause-difference g c =
    let k = g.EF.Operations.ops in
    let p = coordinates c.args.self in
    let q = lifted g.EF.ExtensionField.embed (coordinates c.args.rhs) in
    let formula : at c.add.result c.sub.result ≡ at (k.add (k.mul p.x q.x) (k.mul p.y q.y))
    (k.add (k.mul p.y q.x) (k.neg (k.mul p.x q.y))) =
    grind (
      arith,
      common_steps,
      g.met.EF.Field.add_law,
      g.met.EF.Field.sub_law,
      g.met.EF.Field.mul_law,
    ) in
    formula ∙ difference g.EF.Operations.laws.ring p q

pub returns-clause-undoes : goal.returns-clause-undoes
returns-clause-undoes g c =
    let k = g.EF.Operations.ops in
    let p = coordinates c.args.self in
    let q = lifted g.EF.ExtensionField.embed (coordinates c.args.rhs) in
    let formula : at c.add.result c.sub.result ≡ at (k.add (k.mul p.x q.x) (k.mul p.y q.y))
    (k.add (k.mul p.y q.x) (k.neg (k.mul p.x q.y))) =
    grind (
      arith,
      common_steps,
      g.met.EF.Field.add_law,
      g.met.EF.Field.sub_law,
      g.met.EF.Field.mul_law,
    ) in
    ap (λ (d : Coordinates g.row.EF.Denot). plus k d q)
    (formula ∙ difference g.EF.Operations.laws.ring p q)
    ∙ difference-plus g.EF.Operations.laws.ring p q
    (lifted-on_circle g.met.EF.ExtensionField.embedding (coordinates c.args.rhs)
    c.args.rhs.on_circle)
