use Rattle.std.specs.Prelude.{[]}
use Rattle.circle_challenger.proofs.due.StepsDue.take.Given as goal

-- none, over the same challenger
abbrev pub ghost-picked : goal.ghost-picked
ghost-picked g a = ([], a._by.now.challenger)
