use Rattle.std.proofs.Common.{◌≡◌, length, take, zip}
use Rattle.circle_quotient.proofs.chunks.with_domains.Given as goal

abbrev pub invariant-loop-domain : goal.invariant-loop-domain
invariant-loop-domain g l =
    l.both.items ≡ take (length l.yielded) (zip l.fn.domains.items l.fn.parts.items)
