use Rattle.std.proofs.Common.{◌∙◌, ap, arith, map}
use Rattle.std.proofs.lemmas.List.{take_all}
use Rattle.circle_field.specs.Field.{sub}
use Rattle.circle_point.specs.Point.{coordinates}
use Rattle.circle_point.specs.Basis.{vanishing}
use Rattle.circle_domain.specs.Domain.{log_size, shift_of}
use Rattle.circle_domain.specs.Selectors.{vanishing_on}
use Rattle.circle_domain.proofs.Pointwise.{map_pushed}
use Rattle.circle_domain.proofs.row_selectors.vanishing_values.Goals as goal

pub loop-point-preserved : goal.loop-point-preserved
loop-point-preserved g c =
    let k = g.F.Operations.ops in
    let n = log_size c.args.domain in
    let p = coordinates c.point-item.result in
    map_pushed (λ p. vanishing_on k n (shift_of c.args.domain) (coordinates p)) c.args.points.now
    c.loop-point.point-index c.point-item.result
    c.loop-point.values.items c.push.new.self.items c.sub.result c.loop-point-test.true
    c.point-item.is c.in_ok-push.ensures.items c.loop-point.invariant
    (g.met.F.Field.sub_law _ _ _ c.sub.ensures
    ∙ ap (λ a. sub k a c.v_n-at_shift.result)
    (c.v_n.ensures.polynomial ∙ ap (λ m. vanishing k m p) c.log_n-log_n.ensures)
    ∙ ap (sub k (vanishing k n p)) (c.v_n-at_shift.ensures.polynomial
    ∙ ap (λ m. vanishing k m (coordinates c.shift.result)) c.log_n-log_n.ensures
    ∙ ap (vanishing k n) c.shift.ensures))

pub loop-point-init : goal.loop-point-init
loop-point-init g c = c.in_ok-values.ensures.items

pub returns : goal.returns
returns g c =
    c.loop-point.invariant
    ∙ ap (map (λ p. vanishing_on g.F.Operations.ops (log_size c.args.domain)
    (shift_of c.args.domain) (coordinates p)))
    (take_all c.loop-point.point-index c.args.points.now (omega (arith, c.loop-point-test.false)))

pub sub-requires : goal.sub-requires
sub-requires g c = g.met.F.Field.can_sub_law c.v_n.result c.v_n-at_shift.result
