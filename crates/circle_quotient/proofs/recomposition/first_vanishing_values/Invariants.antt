use Rattle.std.proofs.Common.{◌≡◌, ◌+◌, map, take}
use Rattle.circle_point.specs.Basis.{vanishing}
use Rattle.circle_domain.specs.Order.{natural_order}
use Rattle.circle_quotient.proofs.recomposition.first_vanishing_values.Given as goal

abbrev pub invariant-loop-i : goal.invariant-loop-i
invariant-loop-i g l =
    let k = g.F.Operations.ops in
    let gen = g.F.ComplexExtendable.generators in
    let n = l.fn.log_n + l.fn.log_num_chunks in
    l.values.items ≡ map (vanishing k l.fn.log_n) (take l.i (natural_order k gen n (gen (n + 1))))
