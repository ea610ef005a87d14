use Rattle.p3_circle.proofs.ConstantSeeds.{constant-shape, constant-text}
use Rattle.p3_circle.proofs.laws.constant_seeds.Goals as goal

pub returns-clause-shape : goal.returns-clause-shape
returns-clause-shape g c = constant-shape c.args.params.now

pub returns-clause-text : goal.returns-clause-text
returns-clause-text g c = constant-text c.args.degree c.args.shape.now
