use Rattle.std.proofs.Common.{take}
use Rattle.p3_circle.specs.Committing.{HaveRowsForPoints}
use Rattle.p3_circle.proofs.commit.heights_match_domains.Given as goal

abbrev pub invariant-loop-domain : goal.invariant-loop-domain
invariant-loop-domain g l = HaveRowsForPoints (take l.domain-index l.evaluations)
