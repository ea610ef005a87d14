use Rattle.std.proofs.Common.{◌∙◌, ap, arith, map}
use Rattle.std.proofs.lemmas.List.{take_all}
use Rattle.circle_point.specs.Point.{coordinates}
use Rattle.circle_domain.proofs.Pointwise.{map_pushed}
use Rattle.circle_folding.proofs.interpolation.abscissas.Goals as goal

pub loop-point-preserved : goal.loop-point-preserved
loop-point-preserved g c =
    map_pushed (λ p. (coordinates p).x) c.args.points.now c.loop-point.point-index
    c.point-item.result
    c.loop-point.abscissas.items c.push.new.self.items c.x.result c.loop-point-test.true
    c.point-item.is c.in_ok-push.ensures.items c.loop-point.invariant c.x.ensures

pub loop-point-init : goal.loop-point-init
loop-point-init g c = c.in_ok-abscissas.ensures.items

pub returns : goal.returns
returns g c =
    c.loop-point.invariant
    ∙ ap (map (λ p. (coordinates p).x))
    (take_all c.loop-point.point-index c.args.points.now (omega (arith, c.loop-point-test.false)))
