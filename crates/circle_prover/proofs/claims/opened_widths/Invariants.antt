use Rattle.std.proofs.Common.{◌≡◌, length, map, take}
use Rattle.circle_commit.specs.Pcs.{openings}
use Rattle.circle_transcript.specs.ShapeOf.{batches_of}
use Rattle.circle_prover.proofs.claims.opened_widths.Given as goal

-- the widths of the batches so far are there
abbrev pub invariant-loop-batch : goal.invariant-loop-batch
invariant-loop-batch g l =
    batches_of l.widths.items ≡ map (λ b. map (λ m. map (λ w. length w) m) b)
    (openings (take l.batch-index l.values))
