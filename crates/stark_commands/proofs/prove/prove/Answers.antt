use Rattle.circle_challenger.specs.Sha256Challenger.{state_of}
use Rattle.circle_commands.proofs.Texts.{if-ok}
use Rattle.circle_relation.proofs.Results.{if_err}
use Rattle.stark_commands.proofs.Proved.{proved-new, unproved-new}
use Rattle.stark_commands.proofs.prove.prove.Goals as goal

pub returns-clause-proved : goal.returns-clause-proved
returns-clause-proved c =
    if-ok c.prove_from.result _ _
    (λ claim is. proved-new c.args.input claim (state_of c.new-challenger.result)
    (state_of c.prove_from.new.challenger) c.new-challenger.ensures is) c.prove_from.ensures.proved

pub returns-clause-refused : goal.returns-clause-refused
returns-clause-refused c =
    if_err _ _ c.prove_from.result
    (λ e h. unproved-new c.args.input (state_of c.new-challenger.result)
    (state_of c.prove_from.new.challenger) c.new-challenger.ensures e h)
    c.prove_from.ensures.refused
