use Rattle.std.proofs.Common.{◌≡◌, ◌^◌}
use Rattle.circle_field.specs.Mersenne31.{power}
use Rattle.circle_field.proofs.mersenne31.Mersenne31.exp_power_of_2.Given as goal

abbrev pub invariant-loop : goal.invariant-loop
invariant-loop l = l.squared ≡ power l.fn.self (2 ^ l.counter)
