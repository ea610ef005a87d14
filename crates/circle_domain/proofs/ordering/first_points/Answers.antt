use Rattle.std.proofs.Common.{◌≡◌, ◌-◌, ◌+◌, ◌++◌, ◌∙◌, sym, ap, map, arith, [], ◌∷◌}
use Rattle.circle_field.specs.Circle.{plus}
use Rattle.circle_domain.specs.Domain.{shift_of, log_size}
use Rattle.circle_domain.specs.Order.{coset}
use Rattle.circle_point.specs.Point.{coordinates}
use Rattle.circle_domain.proofs.Twiddles.{coset-more}
use Rattle.circle_domain.proofs.ordering.first_points.Goals as goal

pub size-requires : goal.size-requires
size-requires g c = omega (arith, c.requires.in_group, g.met.F.ComplexExtendable.at_most_62)

pub loop-log_order-init : goal.loop-log_order-init
loop-log_order-init g c =
    ap (map coordinates)
    (c.in_ok-push.ensures.items
    ∙ ap (λ ps. ps ++ c.shift.result ∷ []) c.in_ok-points.ensures.items)
    ∙ ap (λ p. p ∷ []) c.shift.ensures

pub generator-requires : goal.generator-requires
generator-requires g c =
    omega (arith, c.loop-log_order-test.true, c.log_n-log_order-end.ensures, c.requires.in_group)

pub loop-log_order-preserved : goal.loop-log_order-preserved
loop-log_order-preserved g c =
    let k = g.F.Operations.ops in
    let gen = g.F.ComplexExtendable.generators in
    let s = shift_of c.args.domain in
    let m = c.loop-log_order.log_order - 1 in
    let e : m + 1 ≡ c.loop-log_order.log_order = omega arith in
    let f : m + 1 ≡ c.loop-log_order.log_order + 1 - 1 = omega arith in
    c.in_ok-append_moved.ensures
    ∙ ap (λ p. map coordinates c.loop-log_order.points.items
    ++ map (λ q. plus k q p) (map coordinates c.loop-log_order.points.items))
    (c.generator.ensures ∙ ap gen (sym e))
    ∙ ap (λ ps. ps ++ map (λ q. plus k q (gen (m + 1))) ps) c.loop-log_order.invariant
    ∙ sym (coset-more g.F.Operations.laws.ring gen m s) ∙ ap (λ n. coset k gen n s) f

pub returns : goal.returns
returns g c =
    let e : c.loop-log_order.log_order - 1 ≡ log_size c.args.domain - 1 =
    omega (arith, c.log_n-log_order-end.ensures) in
    c.loop-log_order.invariant
    ∙ ap
    (λ n. coset g.F.Operations.ops g.F.ComplexExtendable.generators n (shift_of c.args.domain))
    e
