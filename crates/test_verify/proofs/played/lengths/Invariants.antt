use Rattle.std.proofs.Common.{◌≡◌, take}
use Rattle.circle_transcript.specs.Claims.{claims_of}
use Rattle.circle_transcript.specs.Draw.{widths_of}
use Rattle.test_verify.proofs.played.lengths.Given as goal

-- the numbers of values of the claims so far are there
abbrev pub invariant-loop-claim : goal.invariant-loop-claim
invariant-loop-claim l = l.lengths.items ≡ widths_of (claims_of (take l.claim-index l.claims))
