use Rattle.std.proofs.Common.{◌∙◌, arith}
use Rattle.test_quotient.specs.Mersenne7Circle.{doubled_once}
use Rattle.test_quotient.proofs.mersenne7.Mersenne7ComplexExtendable.circle_two_adic_generator.Goals as goal

pub loop-preserved : goal.loop-preserved
loop-preserved c = doubled_once c.loop.counter _ _ (omega arith) c.double_point-point.ensures
    ∙ c.loop.invariant
