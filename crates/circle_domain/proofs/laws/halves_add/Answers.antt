use Rattle.circle_point.specs.Point.{coordinates}
use Rattle.circle_domain.proofs.HalfSums.{value-halves}
use Rattle.circle_domain.proofs.laws.halves_add.Goals as goal

pub returns : goal.returns
returns g c = value-halves g.F.Operations.laws.ring c.args.log_half c.args.lower.now
    c.args.upper.now (coordinates c.args.point) c.requires.lower c.requires.upper
