use Rattle.std.proofs.Common.{◌≡◌, arith}
use Rattle.std.proofs.lemmas.Grind.{common_steps}
use Rattle.circle_field.specs.Circle.{at, origin}
use Rattle.circle_field.specs.CircleGroup.{origin-on_circle, same-on_circle}
use Rattle.circle_point.proofs.Points.{same_point}
use Rattle.circle_point.proofs.point.PointNeutral.ZERO.Goals as goal
use base.Stored.{Coded-set}

pub invariant_of-result : goal.invariant_of-result
invariant_of-result g c =
    let laws = g.F.Operations.laws.ring in
    let e : at c.ONE.result c.ZERO.result ≡ origin g.F.Operations.ops =
    grind (arith, common_steps, g.met.F.Field.one_law, g.met.F.Field.zero_law) in
    record { on_circle = same-on_circle laws _ e (origin-on_circle laws) }

pub returns : goal.returns
returns g c = same_point (Coded-set g.row.F.coded) _ _
    (grind (arith, common_steps, g.met.F.Field.one_law))
    (grind (arith, common_steps, g.met.F.Field.zero_law))
