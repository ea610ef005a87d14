use Rattle.std.proofs.Common.{◌≡◌, ◌+◌, ◌^◌, ◌<◌, subst, arith, map, take}
use Rattle.std.specs.Prelude.{IfOk}
use Rattle.circle_commit.proofs.Powers.{shifted}
use Rattle.circle_point.specs.Basis.{vanishing}
use Rattle.circle_domain.specs.Order.{natural_order}
use Rattle.circle_quotient.proofs.PartSizes.{part_room}
use Rattle.circle_quotient.proofs.recomposition.values_on_parts.Goals as goal

pub first_vanishing_values-requires-clause-count : goal.first_vanishing_values-requires-clause-count
first_vanishing_values-requires-clause-count g c =
    let k = c.args.log_num_chunks in
    let small : k < 64 =
    omega (arith, c.requires.in_group, g.met.F.ComplexExtendable.at_most_62) in
    omega (arith, shifted k small, part_room c.args.log_n k c.requires.positive)

pub returns : goal.returns
returns g c =
    let gen = g.F.ComplexExtendable.generators in
    let k = c.args.log_num_chunks in
    let small : k < 64 =
    omega (arith, c.requires.in_group, g.met.F.ComplexExtendable.at_most_62) in
    let n = c.args.log_n + k in
    subst
    (λ count. IfOk c.first_vanishing_values.result (λ values. values.items
    ≡ map (vanishing g.F.Operations.ops c.args.log_n)
    (take count (natural_order g.F.Operations.ops gen n (gen (n + 1))))))
    (shifted k small) c.first_vanishing_values.ensures
