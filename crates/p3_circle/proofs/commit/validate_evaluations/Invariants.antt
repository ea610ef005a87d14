use Rattle.std.proofs.Common.{◌≡◌, drop}
use Rattle.p3_circle.specs.Committing.{evaluation_tests}
use Rattle.circle_relation.specs.TestsInOrder.{answer}
use Rattle.p3_circle.proofs.commit.validate_evaluations.Given as goal

-- the result is that for the domains that are left
abbrev pub invariant-loop-domain : goal.invariant-loop-domain
invariant-loop-domain g l =
    let tests = evaluation_tests g.F.ComplexExtendable.CIRCLE_TWO_ADICITY l.params g.F.PartialEq.eq
    g.F.Operations.ops in
    answer {A = Unit {0}} (tests (drop l.domain-index l.evaluations)) (tt {0})
    ≡ answer (tests l.evaluations) (tt {0})
