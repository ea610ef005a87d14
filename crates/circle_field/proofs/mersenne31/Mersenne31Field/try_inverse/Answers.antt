use Rattle.std.proofs.Common.{sym}
use Rattle.circle_field.specs.Mersenne31Powers.{power-one}
use Rattle.circle_field.proofs.Mersenne31Chain.{product, repeated}
use Rattle.circle_field.proofs.mersenne31.Mersenne31Field.try_inverse.Goals as goal

pub returns-clause-inverse : goal.returns-clause-inverse
returns-clause-inverse c =
    let a = c.args.self.now in
    let p101 = product a _ a _ 4 1 c.exp_power_of_2.ensures (sym (power-one a))
    c.mul-p101.ensures in
    let squared = product a _ _ _ 5 5 p101 p101 c.square.ensures in
    let ones_4 = product a _ _ _ 10 5 squared p101 c.mul-ones_4.ensures in
    let shifted_4 = repeated a _ _ 15 16 ones_4 c.exp_power_of_2-2.ensures in
    let ones_8 = product a _ _ _ 240 15 shifted_4 ones_4 c.mul-ones_8.ensures in
    let ones_8_shifted = repeated a _ _ 255 16 ones_8 c.exp_power_of_2-ones_8_shifted.ensures in
    let ones_12 = product a _ _ _ 4080 15 ones_8_shifted ones_4 c.mul-ones_12.ensures in
    let shifted_8 = repeated a _ _ 4080 16 ones_8_shifted c.exp_power_of_2-3.ensures in
    let ones_16 = product a _ _ _ 65280 255 shifted_8 ones_8 c.mul-ones_16.ensures in
    let shifted_12 = repeated a _ _ 65535 4096 ones_16 c.exp_power_of_2-4.ensures in
    let ones_28 = product a _ _ _ 268431360 4095 shifted_12 ones_12 c.mul-ones_28.ensures in
    let shifted_3 = repeated a _ _ 268435455 8 ones_28 c.exp_power_of_2-5.ensures in
    product a _ _ _ 2147483640 5 shifted_3 p101 c.mul.ensures
