use Rattle.std.proofs.Common.{rules, ◌++◌}
use Rattle.circle_transcript.specs.Numbers.{indices_steps}
use Rattle.circle_transcript.specs.Shape.{first_layer_steps, round_steps}
use Rattle.test_allocations.proofs.without.transcripts.prove.Goals as goal

pub batch_phase-requires-clause-next : goal.batch_phase-requires-clause-next
batch_phase-requires-clause-next c =
    let n = c.args.transcript.now.shape in (
      first_layer_steps 3 ++ (round_steps 3 n.commit_pow_bits ++ indices_steps 3 n),
      search (rules, c.requires.run),
    )
