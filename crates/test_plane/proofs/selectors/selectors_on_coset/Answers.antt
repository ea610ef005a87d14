use Rattle.std.proofs.Common.{rules, ◌≤◌, sym, subst, arith, length, All}
use Rattle.std.proofs.lemmas.List.{take_all}
use Rattle.std.proofs.lemmas.List.Elements.{All-more}
use Rattle.std.proofs.lemmas.Option.{slice_get_within, get_or_from_slice_get}
use Rattle.circle_field.specs.Circle.{Coordinates}
use Rattle.circle_point.specs.Point.{coordinates}
use Rattle.circle_domain.specs.Clear.{IsClearOf}
use Rattle.circle_domain.specs.Domain.{log_size, shift_of}
use Rattle.circle_domain.specs.Order.{natural_order}
use Rattle.circle_domain.proofs.PartLists.{length-natural_order}
use Rattle.test_plane.proofs.selectors.selectors_on_coset.Goals as goal

pub loop-i-preserved : goal.loop-i-preserved
loop-i-preserved g c =
    let k = g.F.Operations.ops in
    let gen = g.F.ComplexExtendable.generators in
    let points = natural_order k gen (log_size c.args.coset) (shift_of c.args.coset) in
    let IsClear : Coordinates g.row.F.Denot → Type 0 =
    IsClearOf k (λ x. x)
    (natural_order k gen (log_size c.args.domain) (shift_of c.args.domain)) in
    let i = c.loop-i.i in
    let p = coordinates c.nth_point.result in
    All-more IsClear points i p (slice_get_within points i p c.nth_point.ensures) c.loop-i.invariant
    (subst IsClear (sym (get_or_from_slice_get points i p p c.nth_point.ensures))
    (c.is_clear_of.ensures.0 (search rules)))

pub selectors_on_coset-requires-clause-clear : goal.selectors_on_coset-requires-clause-clear
selectors_on_coset-requires-clause-clear g c =
    let k = g.F.Operations.ops in
    let gen = g.F.ComplexExtendable.generators in
    let m = log_size c.args.coset in
    let points = natural_order k gen m (shift_of c.args.coset) in
    let IsClear : Coordinates g.row.F.Denot → Type 0 =
    IsClearOf k (λ x. x)
    (natural_order k gen (log_size c.args.domain) (shift_of c.args.domain)) in
    let positive : 1 ≤ m = search rules in
    let all : length points ≤ c.loop-i.i =
    omega (
      arith,
      c.loop-i-test.false,
      c.size-i-end.ensures,
      length-natural_order k gen m (shift_of c.args.coset) positive,
    ) in
    subst (All IsClear) (take_all c.loop-i.i points all) c.loop-i.invariant
