use Rattle.std.proofs.Common.{◌≡◌, ◌-◌, ◌∷◌, suc, ◌∙◌, sym, ap, arith}
use Rattle.circle_field.specs.Circle.{Coordinates}
use Rattle.circle_domain.specs.Domain.{alternating}
use Rattle.circle_point.specs.Point.{coordinates}
use Rattle.circle_domain.proofs.Orders.{length-alternating}
use Rattle.circle_domain.proofs.domain.CirclePointsIterator.next.Goals as goal

pub returns-clause-steps : goal.returns-clause-steps
returns-clause-steps g c =
    let k = g.F.Operations.ops in
    let it = c.args.self.now in
    let one_more : it.remaining ≡ suc (it.remaining - 1) = omega arith in
    ap (λ n. alternating k n (coordinates it.current) (coordinates it.other) (coordinates it.step))
    one_more
    ∙ ap (λ (q : Coordinates g.row.F.Denot). coordinates it.current
    ∷ alternating k (it.remaining - 1) (coordinates it.other) q (coordinates it.step))
    (sym c.add-self.ensures.sum)

pub returns-clause-goes : goal.returns-clause-goes
returns-clause-goes g c =
    let k = g.F.Operations.ops in
    let it = c.args.self.now in
    let before = length-alternating k it.remaining (coordinates it.current) (coordinates it.other)
    (coordinates it.step) in
    let after =
    length-alternating k (it.remaining - 1) (coordinates it.other)
    (coordinates c.add-self.result) (coordinates it.step) in
    record {
      on = λ _. (tt, tt, omega (arith, before, after));
      keeps = tt;
      rests = λ _. tt;
    }
