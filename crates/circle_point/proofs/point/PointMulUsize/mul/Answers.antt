use Rattle.std.proofs.Common.{◌≡◌, ◌∙◌, ◌/◌, ap, arith}
use Rattle.std.proofs.lemmas.Grind.{common_steps}
use Rattle.circle_field.specs.Circle.{Coordinates, origin, plus, times}
use Rattle.circle_point.specs.Point.{coordinates}
use Rattle.circle_point.proofs.Multiples.{origin-plus, halved_even, halved_odd, no_more}
use Rattle.circle_point.proofs.point.PointMulUsize.mul.Goals as goal
use Rattle.circle_point.proofs.point.PointMulUsize.mul.Goals.{then-rest-eq1, else-rest-eq1}

pub loop-rest-init : goal.loop-rest-init
loop-rest-init g c =
    let k = g.F.Operations.ops in
    let zero : coordinates c.ZERO-result.result ≡ origin k =
    grind (arith, common_steps, g.met.F.Field.one_law, g.met.F.Field.zero_law) in
    ap (λ q. plus k q (times k c.args.rhs (coordinates c.args.self))) zero
    ∙ origin-plus g.F.Operations.laws.ring _

pub loop-rest-preserved : goal.loop-rest-preserved
loop-rest-preserved g c =
    let k = g.F.Operations.ops in
    let laws = g.F.Operations.laws.ring in
    let q = coordinates c.loop-rest.multiple in
    let n = c.loop-rest.rest / 2 in
    elim c.if-rest-eq1.branch [
      | then-rest-eq1 w ↦
          ap
          (λ (r : Coordinates g.row.F.Denot). plus k r
          (times k n (coordinates c.double-multiple.result)))
          (ap coordinates w.result-is ∙ w.add_assign.ensures.after)
          ∙ ap
          (λ (d : Coordinates g.row.F.Denot). plus k (plus k (coordinates c.loop-rest.result) q)
          (times k n d)) c.double-multiple.ensures
          ∙ halved_odd laws _ _ _ _ c.loop-rest.invariant w.if-rest-eq1.true
      | else-rest-eq1 w ↦
          ap
          (λ (r : Coordinates g.row.F.Denot). plus k r
          (times k n (coordinates c.double-multiple.result))) (ap coordinates w.result-is)
          ∙ ap
          (λ (d : Coordinates g.row.F.Denot). plus k (coordinates c.loop-rest.result)
          (times k n d)) c.double-multiple.ensures
          ∙ halved_even laws _ _ _ _ c.loop-rest.invariant (omega (arith, w.if-rest-eq1.false))
    ]

pub returns : goal.returns
returns g c = no_more g.F.Operations.laws.ring _ _ _ _ c.loop-rest.invariant c.loop-rest-test.false
