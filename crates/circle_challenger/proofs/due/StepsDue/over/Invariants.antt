use Rattle.circle_challenger.proofs.due.StepsDue.over.Given as goal

-- these, over this challenger
abbrev pub ghost-picked : goal.ghost-picked
ghost-picked g a = (a._by.now.0.now.steps, a._by.now.1.now)
