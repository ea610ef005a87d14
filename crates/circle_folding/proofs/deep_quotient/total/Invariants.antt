use Rattle.std.proofs.Common.{◌≡◌, take}
use Rattle.circle_folding.specs.Blocks.{sum_of}
use Rattle.circle_folding.proofs.deep_quotient.total.Given as goal

abbrev pub invariant-loop-entry : goal.invariant-loop-entry
invariant-loop-entry g l = l.sum ≡ sum_of g.F.Operations.ops (take l.entry-index l.entries)
