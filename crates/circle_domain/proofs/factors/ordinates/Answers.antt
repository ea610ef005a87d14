use Rattle.std.proofs.Common.{◌∙◌, ap, arith, map}
use Rattle.std.proofs.lemmas.List.{take_all}
use Rattle.circle_point.specs.Point.{coordinates}
use Rattle.circle_domain.proofs.Pointwise.{map_pushed}
use Rattle.circle_domain.proofs.factors.ordinates.Goals as goal

pub loop-point-preserved : goal.loop-point-preserved
loop-point-preserved g c =
    map_pushed (λ p. (coordinates p).y) c.args.points.now c.loop-point.point-index
    c.point-item.result
    c.loop-point.ordinates.items c.push.new.self.items c.y.result c.loop-point-test.true
    c.point-item.is c.in_ok-push.ensures.items c.loop-point.invariant c.y.ensures

pub loop-point-init : goal.loop-point-init
loop-point-init g c = c.in_ok-ordinates.ensures.items

pub returns : goal.returns
returns g c =
    c.loop-point.invariant
    ∙ ap (map (λ p. (coordinates p).y))
    (take_all c.loop-point.point-index c.args.points.now (omega (arith, c.loop-point-test.false)))
