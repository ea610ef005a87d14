use Rattle.std.proofs.Common.{take, All}
use Rattle.circle_domain.specs.Clear.{IsClearOf}
use Rattle.circle_domain.specs.Domain.{log_size, shift_of}
use Rattle.circle_domain.specs.Order.{natural_order}
use Rattle.test_allocations.proofs.plane.is_clear_of_each.Given as goal

-- the points that were passed are clear
abbrev pub invariant-loop-i : goal.invariant-loop-i
invariant-loop-i g l =
    let k = g.F.Operations.ops in
    let gen = g.F.ComplexExtendable.generators in
    All (IsClearOf k (λ x. x) (natural_order k gen (log_size l.domain) (shift_of l.domain)))
    (take l.i (natural_order k gen (log_size l.coset) (shift_of l.coset)))
