use Rattle.std.proofs.Common.{◌∙◌, sym, ap, map}
use Rattle.std.proofs.lemmas.Iterator.Consumers.{YieldsList-end, YieldsList-from_first}
use Rattle.circle_field.specs.Circle.{Coordinates}
use Rattle.circle_field.specs.Field.{sub}
use Rattle.circle_point.specs.Point.{coordinates}
use Rattle.circle_domain.specs.Domain.{points_left, points_of}
use Rattle.circle_domain.proofs.Twiddles.{map-map}
use Rattle.circle_quotient.proofs.selectors.differences_and_heights.Goals as goal

pub returns-clause-differences : goal.returns-clause-differences
returns-clause-differences g c =
    let k = g.F.Operations.ops in
    let f = λ (q : Coordinates g.row.F.Denot). sub k c.args.x q.x in
    let road = YieldsList-from_first coordinates (points_left k)
    (points_of k g.F.ComplexExtendable.generators c.args.domain)
    (ap (points_left k) c.into_iter-point-iterator.ensures.into_iter_gives
    ∙ c.points-point-items.ensures.order) in
    let last = YieldsList-end road c.loop-point.yielded _ c.loop-point.yielded_by _
    c.next.new.self c.in-None.is c.next.ensures.steps in
    c.loop-point.invariant.differences
    ∙ sym (map-map f coordinates c.loop-point.yielded) ∙ ap (map f) last.0

pub returns-clause-heights : goal.returns-clause-heights
returns-clause-heights g c =
    let k = g.F.Operations.ops in
    let f = λ (q : Coordinates g.row.F.Denot). q.y in
    let road = YieldsList-from_first coordinates (points_left k)
    (points_of k g.F.ComplexExtendable.generators c.args.domain)
    (ap (points_left k) c.into_iter-point-iterator.ensures.into_iter_gives
    ∙ c.points-point-items.ensures.order) in
    let last = YieldsList-end road c.loop-point.yielded _ c.loop-point.yielded_by _
    c.next.new.self c.in-None.is c.next.ensures.steps in
    c.loop-point.invariant.heights
    ∙ sym (map-map f coordinates c.loop-point.yielded) ∙ ap (map f) last.0
