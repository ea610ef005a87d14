use Rattle.circle_challenger.specs.Sha256Challenger.{state_of}
use Rattle.stark_example.proofs.stark.verify.Goals as goal

pub returns : goal.returns
returns c = (
  c.new-challenger.result,
  c.new-challenger.ensures,
  (state_of c.verify.new.challenger, c.in_ok-verify.ensures.accepted),
)
