use Rattle.circle_field.specs.RingFacts.{add_left_cancel}
use Rattle.circle_field.proofs.Sums.{ones-+}
use Rattle.circle_field.proofs.laws.sums_add.Goals as goal

pub returns : goal.returns
returns g c =
    record {
      ones = ones-+ g.F.Operations.laws.ring c.args.m c.args.n;
      told = λ other same. add_left_cancel g.F.Operations.laws.ring c.args.left c.args.right other
          same;
    }
