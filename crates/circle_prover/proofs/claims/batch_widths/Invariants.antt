use Rattle.std.proofs.Common.{◌≡◌, length, map, take}
use Rattle.circle_commit.specs.Mmcs.{opened_rows}
use Rattle.circle_transcript.specs.ShapeOf.{matrices_of}
use Rattle.circle_prover.proofs.claims.batch_widths.Given as goal

-- the widths of the matrices so far are there
abbrev pub invariant-loop-matrix : goal.invariant-loop-matrix
invariant-loop-matrix g l =
    matrices_of l.widths.items
    ≡ map (λ m. map (λ w. length w) m) (opened_rows (take l.matrix-index l.values))
