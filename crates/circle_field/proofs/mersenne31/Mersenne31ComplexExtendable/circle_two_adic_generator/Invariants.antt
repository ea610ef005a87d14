use Rattle.std.proofs.Common.{◌≡◌, ◌-◌}
use Rattle.circle_field.specs.Circle.{at}
use Rattle.circle_field.specs.Mersenne31.{doubled_times, generators}
use Rattle.circle_field.proofs.mersenne31.Mersenne31ComplexExtendable.circle_two_adic_generator.Given as goal

abbrev pub invariant-loop : goal.invariant-loop
invariant-loop l = doubled_times (31 - l.counter) (at l.point.0 l.point.1) ≡ generators l.log_n
