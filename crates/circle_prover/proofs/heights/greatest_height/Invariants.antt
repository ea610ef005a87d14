use Rattle.std.proofs.Common.{◌≡◌, drop, map}
use Rattle.std.specs.Prelude.{max}
use Rattle.circle_commit.specs.Mmcs.{greatest}
use Rattle.circle_prover.proofs.heights.greatest_height.Given as goal

-- the greatest of those so far, beside that of the others, is the greatest of all
abbrev pub invariant-loop-matrix : goal.invariant-loop-matrix
invariant-loop-matrix g l =
    max l.greatest (greatest (map (λ m. m.log_height) (drop l.matrix-index l.matrices)))
    ≡ greatest (map (λ m. m.log_height) l.matrices)
