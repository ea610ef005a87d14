use Rattle.circle_challenger.specs.Sha256Challenger.{state_of}
use Rattle.circle_relation.proofs.Results.{if_err, on_one}
use Rattle.stark_commands.proofs.Verified.{accepted-new, unverified-new, verified-new}
use Rattle.stark_commands.proofs.verify.verify.Goals as goal

pub returns-clause-accepted : goal.returns-clause-accepted
returns-clause-accepted c =
    on_one c.verify_from.result
    (λ v. verified-new c.args.input (state_of c.new-challenger.result)
    (state_of c.verify_from.new.challenger) c.new-challenger.ensures v)
    c.verify_from.ensures.accepted

pub returns-clause-complete : goal.returns-clause-complete
returns-clause-complete c =
    if_err _ _ c.verify_from.result
    (λ e complete v. complete
    (accepted-new c.args.input (state_of c.new-challenger.result) c.new-challenger.ensures v))
    c.verify_from.ensures.complete

pub returns-clause-reason : goal.returns-clause-reason
returns-clause-reason c =
    if_err _ _ c.verify_from.result
    (λ e h. unverified-new c.args.input (state_of c.new-challenger.result)
    (state_of c.verify_from.new.challenger) c.new-challenger.ensures e h)
    c.verify_from.ensures.reason
