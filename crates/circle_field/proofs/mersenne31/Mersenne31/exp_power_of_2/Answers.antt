use Rattle.circle_field.proofs.Mersenne31Chain.{no_squaring, squaring_more}
use Rattle.circle_field.proofs.mersenne31.Mersenne31.exp_power_of_2.Goals as goal

pub loop-init : goal.loop-init
loop-init c = no_squaring c.args.self

pub loop-preserved : goal.loop-preserved
loop-preserved c = squaring_more c.args.self c.loop.squared _ c.loop.counter c.loop.invariant
    c.square-squared.ensures
