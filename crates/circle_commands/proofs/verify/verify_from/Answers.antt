use Rattle.std.proofs.Common.{◌∙◌, inr}
use Rattle.circle_challenger.specs.Sha256Challenger.{state_of}
use Rattle.circle_relation.proofs.Results.{on_one, if_err}
use Rattle.circle_commands.proofs.Verified.{unverified, verified, accepted}
use Rattle.circle_commands.proofs.verify.verify_from.Goals as goal

pub returns-clause-accepted : goal.returns-clause-accepted
returns-clause-accepted c =
    on_one c.verify.result
    (λ a. verified c.args.input c.in_ok-placed.field-0.items c.new-scheme.result.mmcs
    c.with_mmcs.result.mmcs c.new-scheme.result.fri_params
    (state_of c.args.challenger.now) (state_of c.verify.new.challenger) c.in_ok-placed.ensures
    (c.new-scheme.ensures.params ∙ c.with_mmcs.ensures) a)
    c.verify.ensures.accepted

pub returns-clause-complete : goal.returns-clause-complete
returns-clause-complete c =
    if_err _ _ c.verify.result
    (λ e complete left v. complete left
    (accepted c.args.input c.in_ok-placed.field-0.items c.new-scheme.result.mmcs
    c.with_mmcs.result.mmcs c.new-scheme.result.fri_params
    (state_of c.args.challenger.now) left c.in_ok-placed.ensures
    (c.new-scheme.ensures.params ∙ c.with_mmcs.ensures) v))
    c.verify.ensures.complete

pub returns-clause-reason : goal.returns-clause-reason
returns-clause-reason c =
    if_err _ _ c.verify.result
    (λ e h. inr (unverified c.args.input e c.new-scheme.result c.in_ok-placed.field-0.items
    (state_of c.args.challenger.now) (state_of c.verify.new.challenger)
    (c.new-scheme.ensures.params ∙ c.with_mmcs.ensures) c.in_ok-placed.ensures h))
    c.verify.ensures.reason
