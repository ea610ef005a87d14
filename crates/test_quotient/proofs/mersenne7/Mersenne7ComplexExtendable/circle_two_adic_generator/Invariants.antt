use Rattle.std.proofs.Common.{◌≡◌, ◌-◌}
use Rattle.circle_field.specs.Circle.{at}
use Rattle.test_quotient.specs.Mersenne7.{doubled_times, generators}
use Rattle.test_quotient.proofs.mersenne7.Mersenne7ComplexExtendable.circle_two_adic_generator.Given as goal

abbrev pub invariant-loop : goal.invariant-loop
invariant-loop l = doubled_times (7 - l.counter) (at l.point.0 l.point.1) ≡ generators l.log_n
