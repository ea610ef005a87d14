use Rattle.std.proofs.Common.{◌≡◌, ◌+◌, ◌^◌, ◌<◌, ◌∙◌, sym, ap, arith, length, map, take}
use Rattle.std.specs.Prelude.{slice_get}
use Rattle.std.proofs.lemmas.Option.{get_or_from_slice_get}
use Rattle.circle_point.specs.Basis.{vanishing}
use Rattle.circle_point.specs.Point.{coordinates}
use Rattle.circle_domain.specs.Domain.{shift_of, points_of}
use Rattle.circle_domain.specs.Order.{natural_order}
use Rattle.circle_domain.proofs.PartLists.{length-natural_order}
use Rattle.circle_domain.proofs.Pointwise.{map_pushed}
use Rattle.circle_quotient.proofs.recomposition.first_vanishing_values.Goals as goal

pub nth_point-requires-clause-positive : goal.nth_point-requires-clause-positive
nth_point-requires-clause-positive g c =
    omega (arith, c.standard-domain.ensures.size, c.requires.positive)

pub nth_point-requires-clause-in_group : goal.nth_point-requires-clause-in_group
nth_point-requires-clause-in_group g c =
    omega (arith, c.standard-domain.ensures.size, c.requires.in_group)

pub nth_point-requires-clause-in_range : goal.nth_point-requires-clause-in_range
nth_point-requires-clause-in_range g c =
    omega (
      arith,
      c.loop-i-test.true,
      c.requires.count,
      ap (λ m. 2 ^ m) c.standard-domain.ensures.size,
    )

pub loop-i-preserved : goal.loop-i-preserved
loop-i-preserved g c =
    let field = g.F.Operations.ops in
    let gen = g.F.ComplexExtendable.generators in
    let n = c.args.log_n + c.args.log_num_chunks in
    let domain = c.standard-domain.result in
    let points = natural_order field gen n (gen (n + 1)) in
    let p = coordinates c.nth_point.result in
    let i = c.loop-i.i in
    let whole : length points ≡ 2 ^ n =
    length-natural_order field gen n (gen (n + 1)) (omega (arith, c.requires.positive)) in
    let same : points_of field gen domain ≡ points =
    ap (λ m. natural_order field gen m (shift_of domain)) c.standard-domain.ensures.size
    ∙ ap (natural_order field gen n) c.standard-domain.ensures.shift in
    map_pushed (vanishing field c.args.log_n) points i p c.loop-i.values.items
    c.push.new.self.items c.v_n.result
    (omega (arith, c.loop-i-test.true, c.requires.count, whole))
    (sym (get_or_from_slice_get points i p p
    (ap (λ ps. slice_get ps i) (sym same) ∙ c.nth_point.ensures)))
    c.in_ok-push.ensures.items c.loop-i.invariant c.v_n.ensures.polynomial

pub returns : goal.returns
returns g c =
    let gen = g.F.ComplexExtendable.generators in
    let n = c.args.log_n + c.args.log_num_chunks in
    let points = natural_order g.F.Operations.ops gen n (gen (n + 1)) in
    c.loop-i.invariant
    ∙ ap (λ count. map (vanishing g.F.Operations.ops c.args.log_n) (take count points))
    (let e : c.loop-i.i ≡ c.args.count =
    omega (arith, c.loop-i-test.false, c.loop-i.auto.i-end) in e)
