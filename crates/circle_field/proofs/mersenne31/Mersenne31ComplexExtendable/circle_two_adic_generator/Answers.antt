use Rattle.std.proofs.Common.{◌∙◌, arith}
use Rattle.circle_field.specs.Mersenne31Circle.{doubled_once}
use Rattle.circle_field.proofs.mersenne31.Mersenne31ComplexExtendable.circle_two_adic_generator.Goals as goal

pub loop-preserved : goal.loop-preserved
loop-preserved c = doubled_once c.loop.counter _ _ (omega arith) c.double_point-point.ensures
    ∙ c.loop.invariant
