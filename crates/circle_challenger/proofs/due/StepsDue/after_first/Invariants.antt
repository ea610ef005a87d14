use Rattle.std.specs.Prelude.{drop}
use Rattle.circle_challenger.proofs.due.StepsDue.after_first.Given as goal

-- these, but the first, over the same challenger
abbrev pub ghost-picked : goal.ghost-picked
ghost-picked g a = (drop 1 a._by.now.steps, a._by.now.challenger)
