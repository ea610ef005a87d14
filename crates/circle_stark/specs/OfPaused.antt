-- What a challenger is to a run that is paused, read off the run's type.
use Rattle.circle_challenger.specs.Moves.{RunMoves}
use Rattle.circle_stark.specs.declared.transcript.PausedRun.{PausedRun}

abbrev pub moves_of : {C F E Com S : Type 0} {moves states : _} → PausedRun C F E Com S moves states
    → RunMoves C S F E Com
moves_of {moves = moves} run = moves.run
