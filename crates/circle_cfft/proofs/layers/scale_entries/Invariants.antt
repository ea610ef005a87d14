use Rattle.std.proofs.Common.{◌≡◌, map}
use Rattle.circle_commit.proofs.Written.{written}
use Rattle.circle_cfft.proofs.layers.scale_entries.Given as goal

abbrev pub invariant-loop-entry : goal.invariant-loop-entry
invariant-loop-entry g l =
    l.entries ≡ written l.entry-index (map (λ a. g.F.Operations.ops.mul a l.factor) l.fn.entries)
    l.fn.entries
