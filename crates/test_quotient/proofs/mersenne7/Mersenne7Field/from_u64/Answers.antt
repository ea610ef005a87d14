use Rattle.std.proofs.Common.{◌∙◌}
use Rattle.test_quotient.specs.Mersenne7Laws.{element_of_nat}
use Rattle.test_quotient.proofs.mersenne7.Mersenne7Field.from_u64.Goals as goal

pub returns : goal.returns
returns c = c.reduced.ensures ∙ element_of_nat c.args.int
