use Rattle.std.proofs.Common.{ap, ◌∙◌}
use Rattle.circle_field.specs.Mersenne31.{element}
use Rattle.circle_challenger.proofs.Witnesses.{of_nat-element}
use Rattle.circle_challenger.proofs.sha256.Sha256ChallengerCanSampleMersenne31.sample.Goals as goal

pub returns-clause-value : goal.returns-clause-value
returns-clause-value c = c.from_u64.ensures ∙ of_nat-element c.number-number.result
    ∙ ap element c.number-number.ensures
