use Rattle.std.proofs.Common.{◌∙◌}
use Rattle.test_quotient.specs.Mersenne7Laws.{power_is_inverse}
use Rattle.test_quotient.proofs.mersenne7.Mersenne7Field.try_inverse.Goals as goal

pub returns-clause-inverse : goal.returns-clause-inverse
returns-clause-inverse c = c.exp_u64.ensures ∙ power_is_inverse c.args.self.now
