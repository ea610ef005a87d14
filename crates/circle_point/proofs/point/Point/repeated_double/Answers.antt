use Rattle.std.proofs.Common.{◌≡◌, ◌^◌, sym, ◌∙◌, ap, arith}
use Rattle.circle_field.specs.Circle.{times}
use Rattle.circle_point.specs.Point.{coordinates}
use Rattle.circle_point.proofs.Multiples.{times-one, doubled-times}
use Rattle.circle_point.proofs.point.Point.repeated_double.Goals as goal

pub loop-init : goal.loop-init
loop-init g c = sym (times-one g.F.Operations.laws.ring (coordinates c.args.self))

pub loop-preserved : goal.loop-preserved
loop-preserved g c =
    c.double-point.ensures ∙ doubled-times g.F.Operations.laws.ring c.loop.counter
    (coordinates c.args.self) (coordinates c.loop.point) c.loop.invariant

pub returns : goal.returns
returns g c = c.loop.invariant ∙ ap (λ n. times g.F.Operations.ops n (coordinates c.args.self))
    (let e : c.loop.counter ≡ c.args.log_n = omega arith in ap (λ m. 2 ^ m) e)
