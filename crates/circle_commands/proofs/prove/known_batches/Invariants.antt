use Rattle.std.proofs.Common.{◌≡◌, map, take}
use Rattle.circle_commands.specs.Proved.{known_of, known_told}
use Rattle.circle_commands.proofs.prove.known_batches.Given as goal

abbrev pub invariant-loop-batch : goal.invariant-loop-batch
invariant-loop-batch l = map known_told l.known.items
    ≡ map known_of (take l.batch-index l.committed)
