use Rattle.std.proofs.Common.{◌≡◌}
use Rattle.circle_commit.proofs.Written.{written}
use Rattle.circle_codewords.specs.Ratios.{with_quotients}
use Rattle.circle_codewords.proofs.reduced.add_quotients.Given as goal

abbrev pub invariant-loop-i : goal.invariant-loop-i
invariant-loop-i g l =
    l.sums
    ≡ written l.i
    (with_quotients g.EF.Operations.ops l.half l.top l.claimed l.ratios l.combined l.fn.sums)
    l.fn.sums
