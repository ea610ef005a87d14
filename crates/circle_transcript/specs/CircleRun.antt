-- What is drawn in a run, as contracts see it. Its type carries what its challenger is to it.
use Rattle.std.specs.Prelude.{◌≡◌, List}
use Rattle.std.specs.Borrow.{Bor}
use Rattle.circle_challenger.specs.Moves.{RunMoves}
use Rattle.circle_point.specs.declared.point.Point.{Point}
use Rattle.circle_transcript.specs.Claims.{claims_of}
use Rattle.circle_transcript.specs.Draw.{Taken, seeded}
use Rattle.circle_transcript.specs.Numbers.{numbers_of}
use Rattle.circle_transcript.specs.Runs.{taken_of, drawn_leaving, Draws, IsStuck}
use Rattle.circle_transcript.specs.ShapeOf.{shape_of}
use Rattle.circle_transcript.specs.declared.described.CircleRun.{CircleRun}
use Rattle.circle_transcript.specs.declared.failure.CircleTranscriptFailure.{CircleTranscriptFailure}
use Rattle.circle_transcript.specs.declared.run.CircleDraws.{CircleDraws}
use Rattle.circle_transcript.specs.declared.run.CircleMessages.{CircleMessages}
use Rattle.circle_transcript.specs.declared.run.CircleWitnesses.{CircleWitnesses}

module _ {C F E Com S : Type 0} {g d : _} (run : CircleRun C F E Com S g d) where
  -- what its challenger is to it
  abbrev pub moves_of : RunMoves C S F E Com
  moves_of = g.run

  -- it draws these from the first challenger, and leaves the other
  abbrev pub IsDrawn : Taken F E Com → C → CircleDraws E → C → Type 0
  IsDrawn taken old d new = Draws moves_of run.shape taken old d new

  -- there are witnesses with which it draws these from the first challenger, and leaves the other
  abbrev pub IsDrawnWithSome : {h : _} → List (Point E h × Bor (List E)) → CircleMessages E Com
      → C → CircleDraws E → C → Type 0
  IsDrawnWithSome claims messages old d new =
      (w : CircleWitnesses F) × IsDrawn (taken_of claims messages w) old d new

  -- equal challenges were drawn, by challengers whose states are equal now
  abbrev pub AreAlike : CircleDraws E → C → CircleDraws E → C → Type 0
  AreAlike d now e other = drawn_leaving moves_of d now ≡ drawn_leaving moves_of e other

  -- it fails where no witness passes
  abbrev pub FindsNone : {h : _} → List (Point E h × Bor (List E)) → CircleMessages E Com → C
      → CircleTranscriptFailure → Type 0
  FindsNone claims messages old e =
      IsStuck moves_of (numbers_of (shape_of run.shape)) (claims_of claims) messages
      (seeded moves_of (shape_of run.shape) (moves_of.base.state old)) e
