use Rattle.std.proofs.Common.{length}
use Rattle.circle_verifier.proofs.ReducedClaims.{IsSummed}
use Rattle.circle_verifier.proofs.checked.CheckedRun.add_claims.Given as goal

-- the quotients under the claims so far were added
abbrev pub invariant-loop-claim : goal.invariant-loop-claim
invariant-loop-claim g l = IsSummed l.self l.word (length l.yielded) l.offset l.fn.sums l.sums
