use Rattle.circle_field.proofs.Powers.{nth_power-+, nth_power-square}
use Rattle.circle_field.proofs.Sums.{nth_power-nonzero}
use Rattle.circle_field.proofs.laws.powers_multiply.Goals as goal

pub returns : goal.returns
returns g c =
    record {
      sum = nth_power-+ g.F.Operations.laws.ring c.args.base c.args.m c.args.n;
      square = nth_power-square g.F.Operations.laws.ring c.args.base c.args.n;
      nonzero = nth_power-nonzero g.F.Operations.laws c.args.base c.args.n;
    }
