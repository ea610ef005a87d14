use Rattle.std.proofs.Common.{◌<◌, All, take}
use Rattle.circle_merkle.proofs.well_formed.has_indices.Given as goal

abbrev pub invariant-loop-index : goal.invariant-loop-index
invariant-loop-index g l = All (λ index. index < l.top) (take l.index-index l.indices)
