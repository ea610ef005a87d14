use Rattle.circle_point.proofs.Multiples.{times-+, times-double}
use Rattle.circle_point.specs.Point.{coordinates}
use Rattle.circle_domain.proofs.laws.multiples_add.Goals as goal

pub returns : goal.returns
returns g c =
    record {
      sum = times-+ g.F.Operations.laws.ring c.args.m c.args.n (coordinates c.args.point);
      double = times-double g.F.Operations.laws.ring c.args.n (coordinates c.args.point);
    }
