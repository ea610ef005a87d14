use Rattle.std.proofs.Common.{◌≡◌, take}
use Rattle.circle_commit.specs.Mmcs.{greatest, heights}
use Rattle.circle_merkle.proofs.well_formed.greatest_height.Given as goal

abbrev pub invariant-loop-dim : goal.invariant-loop-dim
invariant-loop-dim l = l.top ≡ greatest (heights (take l.dim-index l.dimensions))
