use Rattle.std.proofs.Common.{All, take}
use Rattle.circle_commit.specs.Matrix.{IsPowerOfTwo}
use Rattle.circle_merkle.proofs.well_formed.are_powers_of_two.Given as goal

abbrev pub invariant-loop-dim : goal.invariant-loop-dim
invariant-loop-dim l = All (λ dim. IsPowerOfTwo dim.height) (take l.dim-index l.dimensions)
