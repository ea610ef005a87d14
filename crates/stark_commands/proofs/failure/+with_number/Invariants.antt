use Rattle.stark_commands.proofs.failure.+with_number.Given as goal

abbrev pub decreases-with_number : goal.decreases-with_number
decreases-with_number l = l.number
