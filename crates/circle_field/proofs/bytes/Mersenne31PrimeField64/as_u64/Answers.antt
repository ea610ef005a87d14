use Rattle.std.proofs.Common.{ap, ◌∙◌}
use Rattle.circle_field.specs.Field.{of_nat}
use Rattle.circle_field.specs.Mersenne31.{operations}
use Rattle.circle_field.specs.Bytes.{ones}
use Rattle.circle_field.proofs.bytes.Mersenne31PrimeField64.as_u64.Goals as goal

pub returns-clause-same : goal.returns-clause-same
returns-clause-same c = ap (of_nat operations) c.value.ensures.same ∙ ones c.args.self.now
