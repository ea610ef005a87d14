use Rattle.circle_transcript.specs.ShapeOf.{shape_of}
use Rattle.test_allocations.proofs.OneRound.{one_round}
use Rattle.test_allocations.proofs.without.transcripts.finish_of_verifier.Goals as goal

pub verify_whole-requires-clause-run : goal.verify_whole-requires-clause-run
verify_whole-requires-clause-run c =
    let shape = c.in_ok-shape.ensures in
    let begun = c.in_ok-transcript.ensures in
    one_round (shape_of c.in_ok-shape.shape) _ _ shape.widths shape.rounds begun.shape begun.due
