use Rattle.std.proofs.Common.{arith}
use Rattle.circle_codewords.proofs.Joining.{is_none}
use Rattle.circle_codewords.proofs.rounds.place_of.Goals as goal

pub returns-clause-none : goal.returns-clause-none
returns-clause-none c =
    is_none c.args.log_height c.args.heights.now
    (λ j lt. c.loop-i.invariant j (omega (arith, lt, c.loop-i-test.false)))
