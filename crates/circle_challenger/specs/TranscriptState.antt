-- What contracts see of a transcript that is played.
use Rattle.std.specs.Prelude.{◌≡◌, List}
use Rattle.std.specs.Borrow.{MutBor}
use Rattle.circle_challenger.specs.declared.state.TranscriptState.{TranscriptState}
use Rattle.circle_challenger.specs.Step.{Step}

module _ {C F S : Type 0} where
  -- the challenger as it is now
  abbrev pub current : TranscriptState C F S → C
  current t = t.challenger.now

  -- the steps that are still due
  abbrev pub due : TranscriptState C F S → List Step
  due t = t.due.steps

  -- the borrowed challenger is the same
  abbrev pub SameChallenger : TranscriptState C F S → TranscriptState C F S → Type 0
  SameChallenger old new = new.challenger.ghost_name ≡ old.challenger.ghost_name

  -- what is played is the borrowed challenger
  abbrev pub Borrows : TranscriptState C F S → MutBor C → Type 0
  Borrows t challenger = t.challenger.ghost_name ≡ challenger.ghost_name
