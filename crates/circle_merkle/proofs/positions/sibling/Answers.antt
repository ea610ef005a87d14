use Rattle.circle_merkle.proofs.Pairs.{xor-sibling}
use Rattle.circle_merkle.proofs.positions.sibling.Goals as goal

pub returns : goal.returns
returns c = xor-sibling c.args.position
