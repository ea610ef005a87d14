use Rattle.circle_challenger.proofs.due.StepsDue.of.Given as goal

-- those of the separator, over this challenger
abbrev pub ghost-picked : goal.ghost-picked
ghost-picked g a = (a._by.now.0.now.steps, a._by.now.1.now)
